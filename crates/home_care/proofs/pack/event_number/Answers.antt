use Prim.Native.Nat.{◌+◌, ◌*◌, ◌^◌}
use mathlib.Core.Path.{◌≡◌}
use native.Mathlib.Omega.{arith}
use Rattle.rows.specs.Packing.{packs}
use Rattle.rows.proofs.Steps.{joined}
use Rattle.home_care.proofs.pack.event_number.Goals as goal

pub returns : goal.returns
unfolding packs
returns c =
    let a = c.args in
    let f = c.requires in
    let kind : a.kind ≡ 0 * 2 ^ 2 + a.kind = omega arith in
    let s1 = joined 64 _ _ a.date 2 17 kind (omega (arith, f.kind)) f.date (omega arith) in
    let s2 = joined 64 _ _ a.code 19 7 s1.0 s1.1 f.code (omega arith) in
    let s3 = joined 64 _ _ a.end 26 17 s2.0 s2.1 f.end (omega arith) in
    let s4 = joined 64 _ _ a.accesses 43 7 s3.0 s3.1 f.accesses (omega arith) in
    let s5 = joined 64 _ _ a.conferma 50 2 s4.0 s4.1 f.conferma (omega arith) in
    (s5.0, rw s5.0 s5.1)
