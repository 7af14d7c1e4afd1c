mod Cuts
mod Texts
mod Spelt
