use Rattle.pb_kernels_laws.proofs.calls.merged.Goals as goal

pub returns : goal.returns
returns c = record { fits = c.merge.ensures.fits; prelude = c.merge.ensures.prelude; list = c.merge.ensures.list }
