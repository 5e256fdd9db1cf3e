pub mod Items
pub mod Pattern
pub mod Like
pub mod Laws
pub mod Read
pub mod Fronts
