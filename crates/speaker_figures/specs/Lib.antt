pub mod FiguresText
pub mod NoticeCounts
