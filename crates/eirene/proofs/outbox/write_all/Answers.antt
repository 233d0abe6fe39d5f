use Rattle.std.proofs.Common.{arith, ◌≡◌, ◌-◌, ◌++◌, ◌∙◌, ap, List, ℕ, length, take, drop, append_assoc}
use Rattle.std.proofs.lemmas.Grind.{common_steps}
use Rattle.eirene.proofs.KnownLaws.{appends-more}
use Rattle.eirene.proofs.outbox.write_all.Goals as goal

-- a list is its front and its back
split : (n : ℕ) (xs : List ℕ) → take n xs ++ take (length xs - n) (drop n xs) ≡ xs
split n xs = grind (arith, common_steps)

pub loop-rest-preserved : goal.loop-rest-preserved
loop-rest-preserved g c =
    let (done, h, e, f) = c.loop-rest.invariant in
    let n : ℕ = c.in_ok-count.count in (
      done ++ take n c.loop-rest.rest.now,
      appends-more _ _ _ done _ h c.in_ok-count.ensures.bytes,
      append_assoc done (take n c.loop-rest.rest.now) _ ∙ ap (λ s. done ++ s) (split n c.loop-rest.rest.now) ∙ e,
      omega arith,
    )
