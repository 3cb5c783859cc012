-- What a command and a line do, and the cases.
pub mod Commands
pub mod Cases
