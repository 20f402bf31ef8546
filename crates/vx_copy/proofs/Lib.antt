mod ClonedLeaves
mod CloneRows
