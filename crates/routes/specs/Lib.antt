pub mod Commands
pub mod Lending
pub mod WaitingRows
