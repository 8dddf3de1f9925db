pub mod Edition
