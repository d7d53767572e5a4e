-- A line that was written from the first byte on is the text that `out` begins with.
use Prim.Native.Nat.{ℕ}
use mathlib.Core.List.{List}
use native.Mathlib.Omega.{arith}
use lib.Seq.{take_at}
use Rattle.io.proofs.Counting.{prefix_len_of_le}
use Rattle.line.specs.Appended.{Appended}
use Rattle.line.proofs.Appending.{as_long}
use Rattle.judge_sheet.specs.Texts.{TextIs}

pub text_is : (P : List ℕ → Type 0) {out text : List ℕ} {n : ℕ} {after : List ℕ} → Appended out 0 text n after → P text → TextIs P n after
text_is P {text = text} {n} {after} done p =
    record {
      counts = prefix_len_of_le n after (omega (arith, done.ends, done.room.fits, as_long done));
      holds = rw (done.holds, take_at text _ n (omega (arith, done.ends))) p;
    }
