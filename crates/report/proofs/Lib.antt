mod Small
mod SameVerdicts
mod Loads
mod Found
mod Single
mod Begins
mod Fronts
