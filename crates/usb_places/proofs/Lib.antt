mod Insertions
mod Histories
mod Fits
mod Copies
mod Documents
mod Beginnings
mod PlainPlans
