pub mod Laws
pub mod PowerCut
pub mod Witnesses
