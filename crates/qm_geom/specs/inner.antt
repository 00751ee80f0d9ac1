pub mod Numbered
pub mod SmallCoordinate
pub mod Products
pub mod Lowest
pub mod Axes
