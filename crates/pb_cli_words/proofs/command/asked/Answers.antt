use Rattle.std.proofs.Common.{◌∙◌, Some, None, map, option_copied, sym, ap}
use Rattle.pb_cli_words.specs.Request.{request_if}
use Rattle.pb_cli_words.specs.Shown.{options_of}
use Rattle.pb_cli_words.proofs.Names.{by_file, demo_named, few_judge, few_replay, gen_named, judge_named, replay_named, run_named, sim_named}
use Rattle.pb_cli_words.proofs.command.asked.Goals as goal

pub returns-in-gen-clause-asked : goal.returns-in-gen-clause-asked
returns-in-gen-clause-asked c = c.gen_in.ensures.asked ∙ gen_named _ _ _ c.in-gen.is

pub returns-in-gen-clause-few : goal.returns-in-gen-clause-few
returns-in-gen-clause-few c = c.gen_in.ensures.few

pub returns-in-sim-clause-asked : goal.returns-in-sim-clause-asked
returns-in-sim-clause-asked c = c.sim_in.ensures.asked ∙ sim_named _ _ _ c.in-sim.is

pub returns-in-sim-clause-few : goal.returns-in-sim-clause-few
returns-in-sim-clause-few c = c.sim_in.ensures.few

pub returns-in-replay-clause-asked : goal.returns-in-replay-clause-asked
returns-in-replay-clause-asked c = c.replay_in.ensures ∙ replay_named _ _ _ c.in-replay.is

pub returns-in-replay-clause-few : goal.returns-in-replay-clause-few
returns-in-replay-clause-few c = few_replay _ (map (λ f. f.now) c.args.files.now) (options_of c.args.given.now) c.replay_in.ensures

pub returns-in-run-clause-asked : goal.returns-in-run-clause-asked
returns-in-run-clause-asked c = c.run_in.ensures.asked ∙ run_named _ _ _ c.in-run.is

pub returns-in-run-clause-few : goal.returns-in-run-clause-few
returns-in-run-clause-few c = c.run_in.ensures.few

pub returns-in-demo-clause-asked : goal.returns-in-demo-clause-asked
returns-in-demo-clause-asked c = c.demo_in.ensures.asked ∙ demo_named _ _ _ c.in-demo.is

pub returns-in-demo-clause-few : goal.returns-in-demo-clause-few
returns-in-demo-clause-few c = c.demo_in.ensures.few

pub returns-in-judge-clause-asked : goal.returns-in-judge-clause-asked
returns-in-judge-clause-asked c = c.judge_in.ensures ∙ judge_named _ _ _ c.in-judge.is

pub returns-in-judge-clause-few : goal.returns-in-judge-clause-few
returns-in-judge-clause-few c = few_judge _ (map (λ f. f.now) c.args.files.now) (options_of c.args.given.now) c.judge_in.ensures

pub returns-in_err-plain_file-in_default-clause-asked : goal.returns-in_err-plain_file-in_default-clause-asked
returns-in_err-plain_file-in_default-clause-asked c =
    by_file _ _ _ None (request_if c.from_residual.result) (sym (ap option_copied c.in_err-plain_file-in_default.was) ∙ c.plain_file.ensures) (ap request_if c.from_residual.ensures)
    c.in_default.not-gen c.in_default.not-sim c.in_default.not-replay c.in_default.not-run c.in_default.not-demo c.in_default.not-judge

pub returns-in_ok-plain_file-in_default-clause-asked : goal.returns-in_ok-plain_file-in_default-clause-asked
returns-in_ok-plain_file-in_default-clause-asked c =
    by_file _ _ _ (Some c.in_ok-plain_file-in_default.field-0.now) (request_if c.of_file.result) (sym (ap option_copied c.in_ok-plain_file-in_default.was) ∙ c.plain_file.ensures) c.of_file.ensures.asked
    c.in_default.not-gen c.in_default.not-sim c.in_default.not-replay c.in_default.not-run c.in_default.not-demo c.in_default.not-judge
