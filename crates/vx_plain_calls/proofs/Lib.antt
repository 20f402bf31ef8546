mod ArgumentLaws
mod Laws
mod ReturnLaws
