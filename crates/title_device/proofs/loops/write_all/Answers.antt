-- One more push takes the next piece of the text.
use Rattle.std.proofs.Common.{◌≡◌, ◌+◌, ◌-◌, ◌++◌, ℕ, List, Option, None, Some, arith, rules, drop, take, length}
use Rattle.std.{proofs.lemmas.{Grind.{common_steps}, List.{take-append-drop, drop-take}}, specs.Io.KnownBytes.{Appends}}
use Rattle.title_device.proofs.loops.write_all.Goals as goal

-- the front of a text, in two pieces
front_more : (text : List ℕ) (i n : ℕ) → take (i + n) text ≡ take i text ++ take n (drop i text)
front_more text i n = let h = take-append-drop i (take (i + n) text) in let e = drop-take i n text in grind (arith, common_steps, h, e)

-- two pieces of a text, appended one after the other
appends_more : (a b d : Option (List ℕ)) (text : List ℕ) (i n : ℕ) → Appends a b (take i text) → Appends b d (take n (drop i text))
    → Appends a d (take (i + n) text)
appends_more None b d text i n p q = tt
appends_more (Some x) None None text i n p q = p
appends_more (Some x) None (Some z) text i n p q = absurd p
appends_more (Some x) (Some y) None text i n p q = q
appends_more (Some x) (Some y) (Some z) text i n p q = let e = front_more text i n in grind (arith, common_steps, e, p, q)

pub loop-at-preserved : goal.loop-at-preserved
loop-at-preserved g c =
    let inv = c.loop-at.invariant in
    let e = c.in_ok-count.ensures in
    let rest : take (length c.args.text.now - c.loop-at.at) (drop c.loop-at.at c.args.text.now) ≡ drop c.loop-at.at c.args.text.now =
    grind (arith, common_steps) in
    let bytes = rw rest at e.bytes in (
      appends_more _ _ _ c.args.text.now c.loop-at.at c.in_ok-count.count inv.0 bytes,
      search rules,
      grind (arith, common_steps, rw rest at e.bound, inv.2),
    )
