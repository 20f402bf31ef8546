mod Remarked
mod Overviews
