pub mod FiguresText
pub mod RunCounts
