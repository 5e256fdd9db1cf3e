pub mod Levels
pub mod Operand
pub mod Sets
pub mod Pair
pub mod Aggregate
pub mod Demand
