pub mod LayerLaws
