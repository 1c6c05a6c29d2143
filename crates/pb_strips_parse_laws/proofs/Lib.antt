mod Ends
mod Small
mod SmallFile
