mod GridLaws
mod Laws
