mod Common
mod ShapeLemmas
