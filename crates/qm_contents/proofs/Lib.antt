pub mod SixKinds
pub mod CodeLaws
pub mod Strengths
