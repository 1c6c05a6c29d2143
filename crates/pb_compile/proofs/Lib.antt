mod Told
mod Accepted
mod Done
mod Printed
