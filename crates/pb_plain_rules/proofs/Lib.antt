mod Envs
mod RankSteps
mod Parts
