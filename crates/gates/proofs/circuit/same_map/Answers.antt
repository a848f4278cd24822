use Rattle.std.proofs.Common.{◌≡◌, ℕ, ◌<◌, ◌==◌, Bool, true, List, Decides, sym, ◌∙◌, refl, subst, eqb-true, eq-eqb, arith, rules, tests, slice_index_or}
use Rattle.std.specs.List.{list_all, range_with_len}
use Rattle.std.proofs.lemmas.Iterator.{YieldsList-from_range}
use Rattle.std.proofs.lemmas.Iterator.Search.{all_from_yields_List}
use Rattle.std.proofs.lemmas.List.FromFn.{length-range_with_len, get_or-range_with_len}
use Rattle.std.proofs.lemmas.List.Sums.{AllPass-from_list_all, list_all-from_AllPass}
use Rattle.words.specs.Maps.{Same}
use Rattle.gates.specs.Gates.{Kind}
use Rattle.gates.specs.Circuits.{through}
use Rattle.gates.specs.Probes.{Probes, Tell}
use Rattle.gates.proofs.circuit.same_map.Goals as goal

-- the numbers below m, in order
nth : (m k d : ℕ) → k < m → slice_index_or (range_with_len 0 m) k d ≡ k
nth m k d h = omega (arith, get_or-range_with_len 0 m k d h)

module _ {G : Type 0} (K : Kind G) (P : Probes) (n : ℕ) (gs hs : List G) where
  -- whether the two agree on probe word k
  abbrev agree : ℕ → Bool
  agree k = through K n gs (P.word k) == through K n hs (P.word k)

  -- two circuits have the same map where they agree on every probe word
  told : Tell K P n → (r : Bool) (m : ℕ) → m ≡ P.count n → r ≡ list_all agree (range_with_len 0 m) → Decides r (Same n (through K n gs) (through K n hs))
  told tell r m count e =
      let ks = range_with_len 0 m in (
        λ t. tell.enough gs hs (λ k h.
            let l : k < m = omega arith in
            eqb-true _ _ (subst (λ i. agree i ≡ true) (nth m k 0 l) (AllPass-from_list_all agree ks (sym e ∙ t) k 0 (omega (arith, length-range_with_len 0 m))))),
        λ same. e ∙ list_all-from_AllPass agree ks (λ k d h.
            let l : k < m = omega (arith, length-range_with_len 0 m) in
            subst (λ i. agree i ≡ true) (sym (nth m k d l)) (eq-eqb _ _ (same (P.word k) (tell.within k (omega arith))))),
      )

pub returns : goal.returns
returns g c =
    let K = g.G.Gate.kind in
    let P = g.G.Probed.probes in
    told K P c.args.n c.args.a.now c.args.b.now c.probe_count.ensures.tell c.all.result c.probe_count.result c.probe_count.ensures.count
    (all_from_yields_List (agree K P c.args.n c.args.a.now c.args.b.now) _ _ _ c.all.ensures.ran (YieldsList-from_range 0 c.probe_count.result c.probe_count.result refl (omega arith)) (λ x b q k. search (rules, tests)))
