-- `model_store::made::clear` meets its contract. Assumes nothing.
use Rattle.std.proofs.Common.{◌≡◌, ℕ, ◌+◌, ◌-◌, length, take, drop, replicate, ap, ◌∙◌, arith, length-drop, length-take-le}
use Rattle.std.proofs.lemmas.List.{length-replicate}
use borrow.Rule.Slice.PartMut.{put_mid}
use lib.Seq.{sets}
use Rattle.layout.specs.Bytes.{zeros}
use Rattle.model.specs.PageLaws.{stored_in}
use Rattle.model_store.proofs.made.clear.Goals as goal

pub returns : goal.returns
unfolding zeros
returns c =
    let a = c.args in
    let part = c.fill.new.self in
    let k : a.at + a.n - a.at ≡ a.n = omega arith in
    let e : part ≡ replicate a.n 0 =
    c.fill.ensures.after (λ y p. p) ∙ ap (λ (j : ℕ). replicate j 0) (ap (λ (j : ℕ). length (take j (drop a.at a.to.now))) k ∙ length-take-le a.n (drop a.at a.to.now) (simp length-drop (omega arith))) in
    ap (λ (j : ℕ). put_mid a.at j a.to.now part) k
    ∙ stored_in a.to.now part a.at a.n (omega arith) (ap length e ∙ length-replicate a.n 0)
    ∙ ap (sets a.to.now a.at) e
