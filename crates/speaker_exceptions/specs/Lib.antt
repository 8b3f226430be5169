pub mod ExceptionExits
pub mod ObeyedExceptions
pub mod SlurmFigures
