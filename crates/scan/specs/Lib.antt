-- What a scan answers, and the rows that it leaves.
pub mod Scan
pub mod Rows
