use Rattle.std.proofs.Common.{◌-◌}
use Rattle.pb_project_choice.proofs.testing.+put_tests_within.Given as goal

abbrev pub decreases-put_tests_within : goal.decreases-put_tests_within
decreases-put_tests_within l = l.most - l.least
