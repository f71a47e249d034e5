-- What the contracts on lives cite, and the laws that lives keep.
pub mod Lives
pub mod Laws
pub mod BitOrder
