use Rattle.std.proofs.Common.{◌≡◌, ℕ, ◌+◌, List, ◌++◌, Option, None, Some, take, drop, sym, ap, subst, ◌∙◌, append_assoc, arith}
use Rattle.std.proofs.Math.Seq.{take-add}
use Rattle.std.specs.Io.KnownBytes.{Consumes}
use Rattle.streams.proofs.read_full.Goals as goal

-- the bytes of two reads, one after the other
both : (a b c : Option (List ℕ)) (front more : List ℕ) → Consumes a b front → Consumes b c more → Consumes a c (front ++ more)
both None b c front more p q = tt
both (Some x) None c front more p q = absurd p
both (Some x) (Some y) None front more p q = absurd q
both (Some x) (Some y) (Some z) front more p q = p ∙ ap (λ l. front ++ l) q ∙ sym (append_assoc front more z)

-- the buffer keeps what it had, and has the second read's bytes behind
grown : (a b c : Option (List ℕ)) (xs ys : List ℕ) (done n : ℕ) → take done ys ≡ take done xs
    → Consumes a b (take done xs) → Consumes b c (take n (drop done ys)) → Consumes a c (take (done + n) ys)
grown a b c xs ys done n front p q =
    subst (Consumes a c) (sym (take-add done n ys)) (both a b c _ _ (subst (Consumes a b) (sym front) p) q)

pub loop-preserved : goal.loop-preserved
loop-preserved g c =
    let read = c.in_ok-n.ensures in
    let before = c.loop.invariant in
    record {
      within = read.fits;
      one_each = omega arith;
      given = grown _ _ _ c.loop.buf c.read_more.new.buf c.loop.done c.in_ok-n.n read.front before.given read.bytes;
    }
