pub mod AcceptedContents
pub mod Fronts
pub mod InRange
pub mod LastParts
pub mod PlanCosts
pub mod Spellings
pub mod Views
