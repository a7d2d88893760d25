-- The loop of a short message over its own variables: it is serving's loop (serving's Turns), and what is left of the message gives the same shown screen
-- (Still). A turn takes what the functions that it calls ensure.
use mathlib.Core.Path.{◌∙◌, ◌≡◌, ap, refl, subst, sym}
use Prim.Native.Nat.{◌+◌, ◌-◌, ◌<◌, ◌≤◌, ℕ}
use native.Mathlib.Omega.{arith}
use mathlib.Core.Bool.{Bool, ◌||◌, cond, false, not, true}
use mathlib.Core.List.{List}
use lib.ListN.{drop, get_or, length, replicate, set, take}
use lib.Dec.{eqb}
use Rattle.model.specs.declared.Item.{Item}
use Rattle.model.specs.declared.Item.TheVariants.{Control, Printed, Refused, Sequence}
use Rattle.model.specs.declared.Outcome.{Outcome}
use Rattle.model.specs.declared.Place.{Place}
use Rattle.model.specs.declared.Settings.{Settings}
use Rattle.model.specs.State.{State, state, with_marks, with_places}
use Rattle.model.specs.Checks.{member}
use Rattle.model.specs.Screens.{here, place_of}
use Rattle.model.specs.Sound.{Good}
use Rattle.model.specs.Reading.{Read, byte_of, own_bytes}
use Rattle.model.specs.Rules.{apply_item, printed}
use Rattle.model.specs.Items.{obeyed_by, printer_bytes}
use Rattle.model.specs.OnScreen.{stays_on_screen?}
use Rattle.model.specs.Picture.{painting, picture}
use Rattle.calls.specs.Repaint.{calm?, lifts?, moves_top?, place_by, print_place, shown_behind, wide?}
use Rattle.views.specs.Painted.{painted}
use Rattle.calls.proofs.Loop.{ends, read_at, rest}
use Rattle.calls.proofs.Patterns.{obeyed_in_message}
use Rattle.model.proofs.Tests.{differ, or_false}
use Rattle.reader.specs.declared.Reading.{Reading}
use Rattle.reader.specs.Reading.{ReadAt}
use Rattle.ground.specs.declared.Frame.{Frame}
use Rattle.ground.specs.Frame.{FrameOf, Framed, limits_in}
use Rattle.ground.specs.Acts.{Acts, with_here}
use Rattle.runs.specs.Run.{printed_all, prints?}
use Rattle.ground.proofs.Acting.{placed-there}
use Rattle.ground.proofs.Carried.{carried_here, framed_here, same_here, unmarked_acts}
use Rattle.counting.specs.declared.Counts.{Counts}
use Rattle.counting.specs.Counting.{answer_at, counts_with, no_counts}
use Rattle.applying.specs.Applying.{Applied}
use Rattle.obeying.specs.Obeying.{Moves, bare_then, dots_then, printed?}
use Rattle.serving.specs.Serves.{Servable, items_of}
use Rattle.serving.proofs.Going.{Going}
use Rattle.counting.proofs.CountingLaws.{printed_with}
use Rattle.serving.proofs.Runs.{run}
use Rattle.serving.proofs.Turns.{Loop, acted, bared, begin, changed, changed_to, end, away, marks_are, is_item, moved_to, printed_counts, ran_to}
use Rattle.short_printing.specs.declared.Seen.{Seen}
use Rattle.short_obeying.specs.Watches.{Inks, Watches, character, none, printing?, wide_item}
use Rattle.short_printing.specs.Seen.{Sees, run_of, seen_all, veiled, wide_print}
use Rattle.short_serving.specs.ServesShort.{ServesShort}
use Rattle.short_printing.proofs.Seeing.{or_none}
use Rattle.short_obeying.proofs.Arms.{prints_code}
use Rattle.short_serving.proofs.Still.{Shows, Still, last_painted, shows-character, still_first, still_last, still_run, still_turn, target}

-- an item that prints no character has no place
no_place : (i : Item) (st : State) → printing? i ≡ false → place_by i st ≡ 640
unfolding place_by
no_place (Printed c) st h = absurd (differ h)
no_place (Control c) st h = refl
no_place (Sequence q) st h = ap (λ (b : Bool). cond b (print_place st) 640) h
no_place (Refused n p) st h = refl

-- an item that is no printed byte and not wide has painted what it must
shows_item : (r : Read) (s : Settings) (dots : List ℕ) {f : Frame} {p : Place} {cells layer marks x x' : List ℕ} → Good (state s cells layer dots) → Framed s f → place_of s s.selected ≡ p → s.marks ≡ marks → length x ≡ 640
    → Inks r.item f p s.secret cells layer marks x x' → wide? r (state s cells layer dots) ≡ false → Shows r (state s cells layer dots) x x'
unfolding place_by wide? moves_top? calm? lifts? wide_print member
shows_item r s dots {cells = cells} {layer} {x = x} g e h k n (character c is paint) narrow =
    let st : State = state s cells layer dots in
    let done : obeyed_by r st ≡ printed c st = ap (λ (i : Item). apply_item (byte_of r) i st) is ∙ prints_code (byte_of r) c st in
    let wide : wide? r st ≡ wide_print c st = λ i. not (calm? (is i)) || (lifts? (is i) st || not (eqb (here (done i)).top (here st).top)) in
    subst (Shows r st x) (sym (paint s dots e h k)) (shows-character r st c x (veiled s.secret c) g (ap (λ (i : Item). place_by i st) is) done refl n (sym wide ∙ narrow))
shows_item r s dots {cells = cells} {layer} g e h k n (none u v) narrow =
    record { others = λ p l o. ap (λ (y : List ℕ). get_or y p 0) v; own = λ l. absurd (no_less (no_place r.item (state s cells layer dots) u) l) }
  where
    no_less : {a : ℕ} → a ≡ 640 → a < 640 → ⊥
    no_less e l = omega (arith, e, l)

module _ (m cells₀ layer₀ dots₀ printer₀ shown₀ : List ℕ) (s₀ : Settings) where
  abbrev first : State
  first = state s₀ cells₀ layer₀ dots₀

  -- the room for copies, with these counts
  abbrev room : Counts → ℕ
  room c = length printer₀ - c.printed

  pub record Watch (cells layer dots printer shown : List ℕ) (s : Settings) (p : Place) (marks : List ℕ) (f : Frame) (c : Counts) (wide : Bool) (at : ℕ) : Type 0 where
    pub loop : Loop m 0 no_counts cells₀ layer₀ dots₀ printer₀ s₀ cells layer dots printer s p marks f c at
    pub still : Still m first (length printer₀) shown₀ at (state (with_here s p marks) cells layer dots) (room c) wide shown

  pub watch_first : {f : Frame} {p : Place} {b : Bool} → Servable s₀ m cells₀ layer₀ dots₀ shown₀ → (FrameOf s₀ f) × (f.bare ≡ b) → (b ≡ true → layer₀ ≡ replicate (length layer₀) 0) → p ≡ place_of s₀ s₀.selected
      → {c : Counts} → c ≡ no_counts → Watch cells₀ layer₀ dots₀ printer₀ shown₀ s₀ p s₀.marks f c false 0
  watch_first {f = f₀} {p = p} v f k h {c} e =
      let all : length printer₀ ≡ room c = omega (arith, ap (λ (x : Counts). x.printed) e) in
      record {
        loop = subst (λ (x : Counts). Loop m 0 no_counts cells₀ layer₀ dots₀ printer₀ s₀ cells₀ layer₀ dots₀ printer₀ s₀ p s₀.marks f₀ x 0) (sym e) (begin m 0 no_counts cells₀ layer₀ dots₀ printer₀ s₀ v f k h (omega arith, (omega arith, refl)));
        still = subst (λ (n : ℕ). Still m first (length printer₀) shown₀ 0 (state (with_here s₀ p s₀.marks) cells₀ layer₀ dots₀) n false shown₀) all
            (subst (λ (x : Settings). Still m first (length printer₀) shown₀ 0 (state x cells₀ layer₀ dots₀) (length printer₀) false shown₀) (sym (same_here s₀ p s₀.marks (sym h) refl)) (still_first m first (length printer₀) shown₀ v.shown_are));
      }

  module _ {cells layer dots printer shown : List ℕ} {s : Settings} {p : Place} {marks : List ℕ} {f : Frame} {c : Counts} {wide : Bool} {at : ℕ} (g : Watch cells layer dots printer shown s p marks f c wide at) where
    -- what stands
    abbrev stand : State
    stand = state (with_here s p marks) cells layer dots

    abbrev good : Good stand
    good = g.loop.going.good

    -- a run of printed bytes
    pub run_on_lem : (n : ℕ) {w : Bool} {x : List ℕ} → at + n ≤ length m → ((j : ℕ) → at ≤ j → j < at + n → prints? m j ≡ true) → let bs = take n (drop at m) in Sees bs f p s.secret w cells layer marks shown x
        → Still m first (length printer₀) shown₀ (at + n) (printed_all bs stand) (room c) (wide || w) x
    unfolding place_of
    run_on_lem n {w} {x} inside print o =
        let bs : List ℕ = take n (drop at m) in
        let framed = framed_here p marks g.loop.framed in
        let there = placed-there p g.loop.framed in
        let t = still_run m first (length printer₀) shown₀ s.secret n at stand (room c) good refl inside print g.still in
        subst (λ (y : List ℕ). Still m first (length printer₀) shown₀ (at + n) (printed_all bs stand) (room c) (wide || w) y) (sym (o.seen_is (with_here s p marks) dots framed there refl))
        (subst (λ (b : Bool). Still m first (length printer₀) shown₀ (at + n) (printed_all bs stand) (room c) (wide || b) (seen_all s.secret bs stand shown)) (sym (o.wide_is (with_here s p marks) dots framed there refl)) t)

    module _ (more : at < length m) (r : Reading) (w : ReadAt m at (limits_in f) (length printer - c.printed) r) {v : Seen} {cells₁ layer₁ marks₁ dots₁ shown₁ : List ℕ} (d : (Moves m at r.length r.item f p (run_of v) cells layer marks cells₁ layer₁ marks₁) × (Watches m at r.item f p s.secret v cells layer marks shown shown₁))
        {b : Bool} (t : b ≡ bare_then f.mode r.item f.bare) (y : dots₁ ≡ dots_then f.mode r.item dots) {c' : Counts} (k : c' ≡ counts_with f.mode r.item at c) where
      -- an item that is no printed byte, obeyed by whatever it came about
      other : printed? r.item ≡ false → {st' : State} → Good st' → st' ≡ apply_item (λ o. get_or m o 0) r.item stand → Still m first (length printer₀) shown₀ v.at st' (room c') (wide || v.wide) shown₁
      unfolding read_at wide? moves_top? wide_item place_of
      other n {st'} good' e =
          let rd : Read = read_at m at stand (room c) in
          let q = d.1.one n in
          let is : rd.item ≡ r.item = sym (is_item m 0 no_counts cells₀ layer₀ dots₀ printer₀ s₀ g.loop more r w) in
          let done : obeyed_by rd stand ≡ st' = obeyed_in_message m at stand (room c) ∙ ap (λ (i : Item). apply_item (λ o. get_or m o 0) i stand) is ∙ sym e in
          let framed = framed_here p marks g.loop.framed in
          let there = placed-there p g.loop.framed in
          let wider : v.wide ≡ wide? rd stand = q.wide_is (byte_of rd) (with_here s p marks) dots framed there refl ∙ (λ i. wide_item (byte_of rd) (sym is i) stand) in
          let next : at + length (own_bytes m at) ≡ v.at = sym (d.0.next n ∙ ap (λ (k : ℕ). at + k) w.length_is) in
          let bytes : rd.prints ≡ printer_bytes f.mode r.item = λ i. printer_bytes (sym g.loop.framed.mode_is i) (is i) in
          let left : room c - rd.prints ≡ room c' = omega (arith, ap (λ (x : Counts). x.printed) k, printed_with f.mode r.item at c, bytes) in
          let z = still_turn m first (length printer₀) shown₀ at stand (room c) more g.still (subst Good (sym done) good') (ap (λ (o : Bool). wide || o) wider) q.size
          (λ n. shows_item rd (with_here s p marks) dots good framed there refl g.still.size (subst (λ (i : Item). Inks i f p s.secret cells layer marks shown shown₁) (sym is) q.inks) (sym wider ∙ (or_false wide v.wide n).1)) in
          subst (λ (o : ℕ). Still m first (length printer₀) shown₀ o st' (room c') (wide || v.wide) shown₁) next
          (subst (λ (o : ℕ). Still m first (length printer₀) shown₀ (at + length (own_bytes m at)) st' o (wide || v.wide) shown₁) left
          (subst (λ (a : State). Still m first (length printer₀) shown₀ (at + length (own_bytes m at)) a (room c - rd.prints) (wide || v.wide) shown₁) done z))

      -- one that stays
      module _ (h : stays_on_screen? r.item ≡ true) where
        abbrev onward : Loop m 0 no_counts cells₀ layer₀ dots₀ printer₀ s₀ cells₁ layer₁ dots₁ printer s v.place marks₁ (bared f b) c' v.at
        onward = acted m 0 no_counts cells₀ layer₀ dots₀ printer₀ s₀ g.loop more r w d.0 t y k h

        still_stays : (x : Bool) → printed? r.item ≡ x → Still m first (length printer₀) shown₀ v.at (state (with_here s v.place marks₁) cells₁ layer₁ dots₁) (room c') (wide || v.wide) shown₁
        still_stays true e =
            let q = (d.0.run e).run.printing in
            let n : at + (v.at - at) ≡ v.at = omega (arith, q.some) in
            let same : room c ≡ room c' = ap room (sym (k ∙ printed_counts f.mode r.item at c e)) in
            let z = run_on_lem (v.at - at) (omega (arith, n, q.inside)) (λ j a o. q.print j a (omega (arith, n, o))) (d.1.run e) in
            subst (λ (o : ℕ). Still m first (length printer₀) shown₀ v.at (state (with_here s v.place marks₁) cells₁ layer₁ dots₁) o (wide || v.wide) shown₁) same
            (subst (λ (a : State). Still m first (length printer₀) shown₀ v.at a (room c) (wide || v.wide) shown₁) (ran_to m 0 no_counts cells₀ layer₀ dots₀ printer₀ s₀ g.loop more r w d.0 t y k e)
            (subst (λ (o : ℕ). Still m first (length printer₀) shown₀ o (printed_all (take (v.at - at) (drop at m)) stand) (room c) (wide || v.wide) shown₁) n z))
        still_stays false e = other e onward.going.good (sym (moved_to m 0 no_counts cells₀ layer₀ dots₀ printer₀ s₀ g.loop more r w d.0 t y k e h))

        pub watch_stays : {wide' : Bool} → wide' ≡ (wide || v.wide) → Watch cells₁ layer₁ dots₁ printer shown₁ s v.place marks₁ (bared f b) c' wide' v.at
        watch_stays e = record { loop = onward; still = subst (λ (o : Bool). Still m first (length printer₀) shown₀ v.at (state (with_here s v.place marks₁) cells₁ layer₁ dots₁) (room c') o shown₁) (sym e) (still_stays (printed? r.item) refl) }

      -- one that does not
      pub watch_away : (h : stays_on_screen? r.item ≡ false) {ps : List Place} (back : ps ≡ set s.places s.selected v.place) {s₂ : Settings} {cells₂ layer₂ dots₂ printer₂ : List ℕ}
          (a : Applied (with_marks (with_places s ps) marks₁) r.item m c.printed s₂ cells₁ layer₁ dots₁ printer cells₂ layer₂ dots₂ printer₂) {p₂ : Place} {f₂ : Frame} → p₂ ≡ place_of s₂ s₂.selected → (FrameOf s₂ f₂) × (f₂.bare ≡ b)
          → {wide' : Bool} → wide' ≡ (wide || v.wide) → Watch cells₂ layer₂ dots₂ printer₂ shown₁ s₂ p₂ s₂.marks f₂ c' wide' v.at
      watch_away h back {s₂} {cells₂} {layer₂} {dots₂} {printer₂} a {p₂} {f₂} i q {wide'} e =
          let next : Loop m 0 no_counts cells₀ layer₀ dots₀ printer₀ s₀ cells₂ layer₂ dots₂ printer₂ s₂ p₂ s₂.marks f₂ c' v.at = changed m 0 no_counts cells₀ layer₀ dots₀ printer₀ s₀ g.loop more r w d.0 t y k h back a i q in
          let z = other (away r.item h) next.going.good (changed_to m 0 no_counts cells₀ layer₀ dots₀ printer₀ s₀ g.loop more r w d.0 t y k h back a i) in
          record { loop = next; still = subst (λ (o : Bool). Still m first (length printer₀) shown₀ v.at (state (with_here s₂ p₂ s₂.marks) cells₂ layer₂ dots₂) (room c') o shown₁) (sym e) z }

    -- a run of printed bytes that leaves the marks as they are
    pub watch_run : (n : ℕ) {q : Place} {cells₁ layer₁ x : List ℕ} → at + n ≤ length m → ((j : ℕ) → at ≤ j → j < at + n → prints? m j ≡ true) → let bs = take n (drop at m) in Acts (printed_all bs) f p q cells layer cells₁ layer₁
        → Sees bs f p s.secret false cells layer marks shown x → Watch cells₁ layer₁ dots printer x s q marks f c wide (at + n)
    watch_run n {q} {cells₁} {layer₁} {x} inside print a o =
        let bs : List ℕ = take n (drop at m) in
        let done : printed_all bs stand ≡ state (with_here s q marks) cells₁ layer₁ dots = carried_here dots g.loop.framed (unmarked_acts (marks_are m 0 no_counts cells₀ layer₀ dots₀ printer₀ s₀ g.loop) a) in
        record {
          loop = record {
            going = subst (λ (st : State). Going m 0 no_counts first printer₀ (at + n) st c printer) done (run m 0 no_counts first printer₀ n at stand c printer g.loop.going inside print);
            framed = g.loop.framed;
            ready = a.ready;
            sendable = g.loop.sendable;
          };
          still = subst (λ (st : State). Still m first (length printer₀) shown₀ (at + n) st (room c) wide x) done
              (subst (λ (b : Bool). Still m first (length printer₀) shown₀ (at + n) (printed_all bs stand) (room c) b x) (or_none wide) (run_on_lem n inside print o));
        }

    -- the end
    pub watch_ends : (r : Outcome) {shown' : List ℕ} → length m ≤ at → r.settings ≡ with_here s p marks → r.answer ≡ answer_at at c → shown' ≡ cond wide (painting stand) (painted 560 80 (picture stand) shown)
        → ServesShort m first printer₀ shown₀ r cells layer dots shown' printer
    unfolding target rest ends
    watch_ends r {shown'} h e a w =
        let z = end m 0 no_counts cells₀ layer₀ dots₀ printer₀ s₀ g.loop r h e a in
        record {
          state_is = z.state_is;
          shown_is = w ∙ last_painted wide stand shown g.still.size ∙ still_last m first (length printer₀) shown₀ at stand (room c) h g.still
              ∙ ap (λ (st : State). shown_behind (items_of m first printer₀) first st shown₀) (sym z.state_is);
          answer_is = z.answer_is;
          printer_is = z.printer_is;
        }
