pub mod StateNames
pub mod StateTests
pub mod TimerMoments
pub mod SessionTable
pub mod Transports
pub mod Laws
