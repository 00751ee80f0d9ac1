pub mod WordPlaces
pub mod PassLists
pub mod KeptParts
pub mod KeptSteps
pub mod OpeningLaws
