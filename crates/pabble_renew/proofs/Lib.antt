mod Chains
mod Places
mod Plans
mod Putting
mod Carried
mod Told
