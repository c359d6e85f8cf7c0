pub mod BinderLaws
