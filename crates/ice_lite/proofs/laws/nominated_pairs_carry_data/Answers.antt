use Rattle.std.proofs.Common.{max}
use Rattle.ice_lite.specs.Runs.{run}
use Rattle.ice_lite.proofs.PastLemmas.{data_is_sent, data_is_taken}
use Rattle.ice_lite.proofs.laws.nominated_pairs_carry_data.Goals as goal

pub returns-clause-sent : goal.returns-clause-sent
returns-clause-sent c bases earlier now component bytes =
    data_is_sent bases earlier (max (run bases earlier).clock now) component bytes

pub returns-clause-taken : goal.returns-clause-taken
returns-clause-taken c bases earlier now base from bytes =
    data_is_taken bases earlier (max (run bases earlier).clock now) base from bytes
