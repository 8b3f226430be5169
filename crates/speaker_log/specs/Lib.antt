pub mod SeriesCounts
