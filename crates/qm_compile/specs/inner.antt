pub mod CarriedOut
pub mod FaultLine
pub mod FileReport
pub mod MapSummary
pub mod Printed
pub mod Reported
pub mod TreeRead
pub mod UpgradeEnds
