mod LoweredRows
mod LeafLaws
mod AnchorLaws
mod BindingLaws
mod PlaceLaws
mod UsesRows
mod LoweringLaws
