pub mod SeenKept
