-- `state_store::place::params_at` meets its contract: the record stands at its place. Assumes nothing.
use Rattle.std.proofs.Common.{◌≡◌, sym, ◌∙◌, rules}
use Rattle.sound_core.specs.State.{unset}
use Rattle.state_store.specs.Store.{params_at}
use Rattle.state_store.specs.PlaceLaws.{params_in, params-out}
use Rattle.state_store.proofs.place.params_at.Goals as goal

pub returns-then-i-ge127 : goal.returns-then-i-ge127
returns-then-i-ge127 c =
    let z : c.default.result ≡ unset = search rules in
    z ∙ sym (params-out _ _ c.if-i-ge127.true)

pub returns : goal.returns
unfolding params_at
returns c =
    params_in _ _ _ c.if-i-ge127.false
    (λ i. record {
      known = c.get_u8.ensures i;
      buffer = c.get_u32.ensures i;
      period = c.get_u32-2.ensures i;
      features = c.get_u32-3.ensures i;
      channels = c.get_u8-2.ensures i;
      format = c.get_u8-3.ensures i;
      rate = c.get_u8-4.ensures i;
    })
