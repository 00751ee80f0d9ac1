pub mod MovedWorld
