-- `exchange::effect::params_at` meets its contract: past the end there is 0. Assumes nothing.
use Rattle.std.proofs.Common.{◌≡◌, ◌≤◌, length, sym, ◌∙◌, arith, rules}
use lib.ListN.{get_or-eq_default}
use Rattle.sound_core.specs.State.{unset}
use Rattle.exchange.proofs.effect.params_at.Goals as goal

pub returns-then-i-ge127 : goal.returns-then-i-ge127
returns-then-i-ge127 c =
    let a = c.args in
    let n : length a.params ≡ 127 = search rules in
    let h : length a.params ≤ a.stream = omega arith in
    let z : c.default.result ≡ unset = search rules in
    z ∙ sym (get_or-eq_default a.params unset h)
