-- `layout::cut_bytes` meets its contract: a byte at a time. Assumes nothing.
use Rattle.std.proofs.Common.{◌≡◌, ◌<◌, ◌+◌, ℕ, List, [], ◌∷◌, ◌++◌, refl, length, length-set, take, set, sym, ap, ◌∙◌, subst, arith, add-one, zero-add, get_or}
use Rattle.std.proofs.lemmas.List.{length-replicate}
use lib.Seq.{take-suc-set, take_all}
use Rattle.layout.specs.Bytes.{bytes_at, num_at}
use Rattle.layout.specs.BytesLaws.{bytes_at-add, num_at-one}
use Rattle.layout.proofs.cut_bytes.Goals as goal

pub loop-i-init : goal.loop-i-init
unfolding bytes_at
loop-i-init g c = (length-replicate g.row.N 0, refl)

-- one byte more
more : (s b : List ℕ) (i v : ℕ) → i < length b → take i b ≡ bytes_at 0 i s → v ≡ num_at i 1 s → take (i + 1) (set b i v) ≡ bytes_at 0 (i + 1) s
unfolding bytes_at
more s b i v h e p =
    ap (λ (k : ℕ). take k (set b i v)) (add-one i)
    ∙ take-suc-set b i v h
    ∙ (λ j. e j ++ ((p ∙ num_at-one i s ∙ ap (λ (k : ℕ). get_or s k 0) (sym (zero-add i))) j ∷ []))
    ∙ sym (bytes_at-add 0 i 1 s)

pub loop-i-preserved : goal.loop-i-preserved
loop-i-preserved g c =
    let a = c.args in
    let l = c.loop-i in
    let h : l.i < length l.bytes = omega (arith, l.invariant.0) in
    (length-set l.bytes l.i c.get_u8.result ∙ l.invariant.0, more a.s.now l.bytes l.i c.get_u8.result h l.invariant.1 c.get_u8.ensures)

pub returns : goal.returns
returns g c =
    let l = c.loop-i in
    let k : l.i ≡ g.row.N = omega arith in
    sym (take_all g.row.N l.bytes (omega (arith, l.invariant.0))) ∙ subst (λ (n : ℕ). take n l.bytes ≡ bytes_at 0 n c.args.s.now) k l.invariant.1
