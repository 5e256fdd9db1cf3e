pub mod Tables
pub mod Indexed
pub mod Through
pub mod IndexLaws
pub mod PlanLaws
pub mod Runs
pub mod Building
