pub mod NumberedPlanes
