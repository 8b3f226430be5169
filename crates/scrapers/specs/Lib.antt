pub mod Scraping
