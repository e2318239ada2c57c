-- The laws of sorting by a strict order.
pub mod Order
pub mod MemberLaws
pub mod SortLaws
pub mod FromLeftLaws
pub mod WeightLaws
