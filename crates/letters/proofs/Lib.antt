mod Rewrites
mod Forms
mod Prints
