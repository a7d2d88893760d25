-- The loop's invariant over its own variables, and its turns: a run of printed bytes, another item of the selected screen, and one that does not stay
-- there. Each takes what the functions that the turn calls ensure. What stands is the settings with the place and the marks
-- that are kept beside them.
use mathlib.Core.Path.{◌∙◌, ◌≡◌, ap, refl, subst, sym}
use Prim.Native.Nat.{◌+◌, ◌-◌, ◌^◌, ◌<◌, ◌≤◌, ℕ}
use native.Mathlib.Omega.{arith}
use mathlib.Core.Bool.{Bool, cond, false, true}
use mathlib.Core.List.{List, []}
use lib.ListN.{drop, get_or, length, replicate, set, take}
use lib.Dec.{eqb}
use borrow.Author.Tests.{eqb-true}
use Rattle.model.specs.declared.Item.{Item}
use Rattle.model.specs.declared.Item.TheVariants.{Control, Printed, Refused, Sequence}
use Rattle.model.specs.declared.Limits.{Limits}
use Rattle.model.specs.declared.Outcome.{Outcome}
use Rattle.model.specs.declared.Place.{Place}
use Rattle.model.specs.declared.Settings.{Settings}
use Rattle.model.specs.Bytes.{put}
use Rattle.model.specs.State.{State, state, with_marks, with_places}
use Rattle.model.specs.Checks.{member}
use Rattle.model.specs.Screens.{place_of}
use Rattle.model.specs.Sound.{Good}
use Rattle.model.specs.Judging.{allowed, judged, legal_item?, limits_of}
use Rattle.model.specs.Picture.{copied}
use Rattle.model.specs.Reading.{item_of, own_bytes}
use Rattle.model.specs.Rules.{apply_item, with_dots}
use Rattle.model.specs.Sequences.{code_of}
use Rattle.model.specs.Items.{copy_of, printer_bytes}
use Rattle.model.specs.OnScreen.{on_screen?, on_screen_codes, stays_on_screen?}
use Rattle.model.proofs.Tests.{cond_at, differ}
use Rattle.model.proofs.ItemLaws.{obeyed_item}
use Rattle.model.proofs.Marking.{marks_two}
use Rattle.calls.proofs.Printing.{fits_room}
use Rattle.reader.specs.declared.Reading.{Reading}
use Rattle.reader.specs.Reading.{ReadAt}
use Rattle.ground.specs.declared.Frame.{Frame}
use Rattle.runs.specs.declared.Run.{Run}
use Rattle.ground.specs.Frame.{FrameOf, Framed, Ready, Stands, limits_in}
use Rattle.ground.specs.Acts.{with_here}
use Rattle.runs.specs.Run.{printed_all}
use Rattle.ground.proofs.Carried.{carried_here, framed_here, same_here}
use Rattle.screen.proofs.Frames.{limits_are}
use Rattle.counting.specs.declared.Counts.{Counts}
use Rattle.counting.specs.Counting.{Countable, answer_at, counts_with}
use Rattle.applying.specs.Applying.{Applied, Applying, applied}
use Rattle.obeying.specs.Obeying.{Moves, Offered, bare_then, dots_then, printed?}
use Rattle.serving.specs.Serves.{Runs, Servable}
use Rattle.serving.proofs.Going.{Going, finish, start, turn}
use Rattle.store.proofs.Laws.{put-none}
use Rattle.serving.proofs.Runs.{begins, run}
use Rattle.obeying.proofs.Layers.{bare_left}
use Rattle.obeying.proofs.Wiping.{away_spares, printed_spares, stays_dots}

-- an item of the selected screen is no copy
stays_unprinted : (i : Item) (st : State) → stays_on_screen? i ≡ true → copy_of i st ≡ []
unfolding on_screen? member
stays_unprinted (Printed b) st h = refl
stays_unprinted (Control c) st h = refl
stays_unprinted (Sequence q) st h =
    cond_at (λ (l : List ℕ). l ≡ []) (eqb (code_of q) 80) (copied st) [] (λ e. absurd (differ (sym h ∙ ap (λ (n : ℕ). member n on_screen_codes) (eqb-true (code_of q) 80 e)))) (λ e. refl)
stays_unprinted (Refused n p) st h = refl

-- a printed byte counts nothing, and nothing more is known of the layer after it
pub printed_counts : (mode : ℕ) (i : Item) (at : ℕ) (c : Counts) → printed? i ≡ true → counts_with mode i at c ≡ c
printed_counts mode (Printed b) at c h = refl
printed_counts mode (Control d) at c h = absurd (differ (sym h))
printed_counts mode (Sequence q) at c h = absurd (differ (sym h))
printed_counts mode (Refused n p) at c h = absurd (differ (sym h))

printed_bare : (mode : ℕ) (i : Item) (b : Bool) → printed? i ≡ true → bare_then mode i b ≡ b
printed_bare mode (Printed c) b h = refl
printed_bare mode (Control c) b h = absurd (differ (sym h))
printed_bare mode (Sequence q) b h = absurd (differ (sym h))
printed_bare mode (Refused n p) b h = absurd (differ (sym h))

-- an item that does not stay is no printed byte
pub away : (i : Item) → stays_on_screen? i ≡ false → printed? i ≡ false
away (Printed b) h = h
away (Control c) h = refl
away (Sequence q) h = refl
away (Refused n p) h = refl

-- what stands, known with its dots set aside, and its dots
redotted : (st : State) {s : Settings} {cells layer dots dots' : List ℕ} → with_dots dots st ≡ state s cells layer dots → st.dots ≡ dots' → st ≡ state s cells layer dots'
unfolding with_dots
redotted st e h = λ i. record { settings = (e i).settings; cells = (e i).cells; layer = (e i).layer; dots = h i }

-- a frame that says otherwise of the layer
abbrev pub bared : Frame → Bool → Frame
bared f b = record { base = f.base; screen = f.screen; lines = f.lines; columns = f.columns; rows = f.rows; height = f.height; shift = f.shift; step = f.step; tracking = f.tracking; rule = f.rule; mode = f.mode; bare = b }

framed_bared : {s : Settings} {f : Frame} (b : Bool) → Framed s f → Framed s (bared f b)
framed_bared b e = record {
  two_places = e.two_places;
  selected_low = e.selected_low;
  lines_are = e.lines_are;
  columns_are = e.columns_are;
  base_is = e.base_is;
  screen_is = e.screen_is;
  rows_are = e.rows_are;
  height_is = e.height_is;
  shift_is = e.shift_is;
  step_is = e.step_is;
  tracking_is = e.tracking_is;
  rule_is = e.rule_is;
  mode_is = e.mode_is;
}

ready_bared : {f : Frame} {p : Place} {c l : List ℕ} (b : Bool) → Ready f p c l → (b ≡ true → l ≡ replicate 1280 0) → Ready (bared f b) p c l
ready_bared b h k = let d = h.stands in record {
  stands = record { among = d.among; columns_low = d.columns_low; screen_low = d.screen_low; lines_high = d.lines_high; height_low = d.height_low; height_high = d.height_high; whole = d.whole; step_high = d.step_high; fits = d.fits };
  cells_are = h.cells_are;
  layer_are = record { size = h.layer_are.size; empty = k };
}

module _ (m : List ℕ) (from : ℕ) (c₀ : Counts) (cells₀ layer₀ dots₀ printer₀ : List ℕ) (s₀ : Settings) where
  pub record Loop (cells layer dots printer : List ℕ) (s : Settings) (p : Place) (marks : List ℕ) (f : Frame) (c : Counts) (at : ℕ) : Type 0 where
    pub going : Going m from c₀ (state s₀ cells₀ layer₀ dots₀) printer₀ at (state (with_here s p marks) cells layer dots) c printer
    pub framed : Framed s f
    pub ready : Ready f p cells layer
    pub sendable : length m ≤ 4096

  pub begin : {f : Frame} {p : Place} {b : Bool} → {shown₀ : List ℕ} → Servable s₀ m cells₀ layer₀ dots₀ shown₀ → (FrameOf s₀ f) × (f.bare ≡ b) → (b ≡ true → layer₀ ≡ replicate (length layer₀) 0) → p ≡ place_of s₀ s₀.selected
      → (from ≤ length m) × ((c₀.accepted + c₀.refused ≤ from) × (c₀.printed ≡ 0)) → Loop cells₀ layer₀ dots₀ printer₀ s₀ p s₀.marks f c₀ from
  begin {p = p} v f k h e = record {
    going = subst (λ (x : Settings). Going m from c₀ (state s₀ cells₀ layer₀ dots₀) printer₀ from (state x cells₀ layer₀ dots₀) c₀ printer₀) (sym (same_here s₀ p s₀.marks (sym h) refl))
        (start m from c₀ (state s₀ cells₀ layer₀ dots₀) printer₀ e.0 e.1.0 e.1.1 v.good);
    framed = f.0.framed;
    ready = record {
      stands = subst (Stands _) (sym h) f.0.stands;
      cells_are = v.good.cells_are;
      layer_are = record { size = v.good.layer_are; empty = λ t. k (sym f.1 ∙ t) ∙ ap (λ (n : ℕ). replicate n 0) v.good.layer_are };
    };
    sendable = v.sendable;
  }

  module _ {cells layer dots printer : List ℕ} {s : Settings} {p : Place} {marks : List ℕ} {f : Frame} {c : Counts} {at : ℕ} (g : Loop cells layer dots printer s p marks f c at) where
    -- what stands
    abbrev pub st : State
    st = state (with_here s p marks) cells layer dots

    pub marks_are : length marks ≡ 2
    marks_are = marks_two st g.going.good

    limits : limits_in f ≡ limits_of (with_here s p marks)
    limits = sym (limits_are (framed_here p marks g.framed))

    -- the mode that it is read in
    in_mode : f.mode ≡ s.mode
    in_mode = g.framed.mode_is

    module _ (more : at < length m) (r : Reading) (w : ReadAt m at (limits_in f) (length printer - c.printed) r) where
      abbrev pub rule : State → State
      rule = apply_item (λ o. get_or m o 0) r.item

      pub is_item : r.item ≡ judged (item_of at (own_bytes m at)) (limits_of (with_here s p marks)) (length printer₀ - c.printed)
      is_item = w.item_is ∙ (λ i. judged (item_of at (own_bytes m at)) (limits i) (g.going.same_size i - c.printed))

      legal : legal_item? r.item (limits_of (with_here s p marks)) ≡ true
      legal = subst (λ (l : Limits). legal_item? r.item l ≡ true) limits w.legal

      pub roomy : c.printed + printer_bytes f.mode r.item ≤ length printer
      roomy =
          let h : printer_bytes f.mode r.item ≤ length printer - c.printed = subst (λ (i : Item). printer_bytes f.mode i ≤ length printer - c.printed) (sym w.item_is) (fits_room f.mode (allowed (item_of at (own_bytes m at)) (limits_in f)) (length printer - c.printed)) in
          omega (arith, h, g.going.fits, g.going.same_size)

      roomy_here : c.printed + printer_bytes s.mode r.item ≤ length printer
      roomy_here = subst (λ (k : ℕ). c.printed + printer_bytes k r.item ≤ length printer) in_mode roomy

      pub countable : length printer < 2 ^ 64 → Countable c f.mode r.item at
      countable h = record { few = omega (arith, g.going.few, g.sendable, more); near = omega (arith, g.sendable, more); roomy = omega (arith, roomy) }

      -- an item obeyed, by whatever it came about
      obeyed : {cells' layer' dots' printer' : List ℕ} {s' : Settings} {p' : Place} {marks' : List ℕ} {f' : Frame} → Framed s' f' → Ready f' p' cells' layer' → state (with_here s' p' marks') cells' layer' dots' ≡ rule st
          → printer' ≡ put c.printed (copy_of r.item st) printer → {c' : Counts} → c' ≡ counts_with f.mode r.item at c → Loop cells' layer' dots' printer' s' p' marks' f' c' (at + r.length)
      obeyed {cells'} {layer'} {dots'} {printer'} {s'} {p'} {marks'} h d e q k = record {
        going = subst (λ (x : Counts). Going m from c₀ (state s₀ cells₀ layer₀ dots₀) printer₀ (at + r.length) (state (with_here s' p' marks') cells' layer' dots') x printer') (sym (k ∙ ap (λ (n : ℕ). counts_with n r.item at c) in_mode))
            (turn m from c₀ (state s₀ cells₀ layer₀ dots₀) printer₀ at st c printer g.going more r.item is_item r.length _ _ w.length_is w.inside legal w.some (omega (arith, roomy_here, g.going.same_size)) e q);
        framed = h;
        ready = d;
        sendable = g.sendable;
      }

      -- one that prints nothing
      unprinted : copy_of r.item st ≡ [] → printer ≡ put c.printed (copy_of r.item st) printer
      unprinted h = sym (ap (λ (ys : List ℕ). put c.printed ys printer) h ∙ put-none c.printed printer)

      pub offered : Offered m at r.length r.item (limits_in f)
      offered = record {
        inside = w.inside;
        sendable = g.sendable;
        legal = w.legal;
        prints = λ h. begins m at more (limits_in f) (length printer - c.printed) (subst (λ (i : Item). printed? i ≡ true) w.item_is h);
      }

      -- what an item did on the selected screen, what is known of the layer then, the dots, and the counts
      module _ {v : Run} {cells₁ layer₁ marks₁ dots₁ : List ℕ} (d : Moves m at r.length r.item f p v cells layer marks cells₁ layer₁ marks₁) {b : Bool} (t : b ≡ bare_then f.mode r.item f.bare) (y : dots₁ ≡ dots_then f.mode r.item dots) {c' : Counts} (k : c' ≡ counts_with f.mode r.item at c) where
        abbrev Next : ℕ → Type 0
        Next at' = Loop cells₁ layer₁ dots₁ printer s v.place marks₁ (bared f b) c' at'

        -- by the mode of the settings
        bare_here : b ≡ bare_then s.mode r.item f.bare
        bare_here = t ∙ ap (λ (n : ℕ). bare_then n r.item f.bare) in_mode

        wiped : dots₁ ≡ dots_then s.mode r.item dots
        wiped = y ∙ ap (λ (n : ℕ). dots_then n r.item dots) in_mode

        -- what then stands: after a run, and after another item of the selected screen
        pub ran_to : printed? r.item ≡ true → printed_all (take (v.at - at) (drop at m)) st ≡ state (with_here s v.place marks₁) cells₁ layer₁ dots₁
        ran_to h = carried_here dots g.framed (d.run h).acts ∙ ap (state (with_here s v.place marks₁) cells₁ layer₁) (sym (y ∙ printed_spares f.mode r.item dots h))

        pub moved_to : printed? r.item ≡ false → stays_on_screen? r.item ≡ true → rule st ≡ state (with_here s v.place marks₁) cells₁ layer₁ dots₁
        moved_to n h = redotted (rule st) (carried_here dots g.framed (d.acts n h (λ o. get_or m o 0))) (sym (stays_dots (λ o. get_or m o 0) r.item st h) ∙ sym wiped)

        ran : printed? r.item ≡ true → Next v.at
        ran h =
            let u = d.run h in
            let q = u.run.printing in
            let n : at + (v.at - at) ≡ v.at = omega (arith, q.some) in
            let g₂ = run m from c₀ (state s₀ cells₀ layer₀ dots₀) printer₀ (v.at - at) at st c printer g.going (omega (arith, n, q.inside)) (λ j x y. q.print j x (omega (arith, n, y))) in
            let g₃ = subst (λ (x : State). Going m from c₀ (state s₀ cells₀ layer₀ dots₀) printer₀ v.at x c printer) (ran_to h)
            (subst (λ (x : ℕ). Going m from c₀ (state s₀ cells₀ layer₀ dots₀) printer₀ x (printed_all (take (v.at - at) (drop at m)) st) c printer) n g₂) in
            record {
              going = subst (λ (x : Counts). Going m from c₀ (state s₀ cells₀ layer₀ dots₀) printer₀ v.at (state (with_here s v.place marks₁) cells₁ layer₁ dots₁) x printer) (sym (k ∙ printed_counts f.mode r.item at c h)) g₃;
              framed = framed_bared b g.framed;
              ready = ready_bared b u.acts.ready (λ x. u.acts.ready.layer_are.empty (sym (t ∙ printed_bare f.mode r.item f.bare h) ∙ x));
              sendable = g.sendable;
            }

        -- another item of the selected screen
        moved : printed? r.item ≡ false → stays_on_screen? r.item ≡ true → Next v.at
        moved n h =
            let a = d.acts n h (λ o. get_or m o 0) in
            let e = moved_to n h in
            let l : (rule st).layer ≡ layer₁ = ap (λ (x : State). x.layer) e in
            let known : b ≡ true → layer₁ ≡ replicate 1280 0 =
            λ x. sym l ∙ bare_left r.item f.bare (λ o. get_or m o 0) st (sym bare_here ∙ x) (λ y. ((λ off. g.ready.layer_are.empty y), (λ on. l ∙ a.ready.layer_are.empty y))) in
            subst Next (sym (d.next n)) (obeyed (framed_bared b g.framed) (ready_bared b a.ready known) (sym e) (unprinted (stays_unprinted r.item st h)) k)

        -- one that stays
        pub acted : stays_on_screen? r.item ≡ true → Next v.at
        acted h = go (printed? r.item) refl
          where
            go : (x : Bool) → printed? r.item ≡ x → Next v.at
            go true e = ran e
            go false e = moved e h

        pub further : at < v.at
        further = go (printed? r.item) refl
          where
            go : (x : Bool) → printed? r.item ≡ x → at < v.at
            go true e = (d.run e).run.printing.some
            go false e = omega (arith, d.next e, w.some)

        -- one that does not: the place and the marks go back into the settings
        module _ (h : stays_on_screen? r.item ≡ false) {ps : List Place} (back : ps ≡ set s.places s.selected v.place) where
          abbrev stood : State
          stood = state (with_marks (with_places s ps) marks₁) cells₁ layer₁ dots₁

          same : stood ≡ st
          same =
              let e = d.rests h in
              let j : ps ≡ set s.places s.selected p = back ∙ ap (set s.places s.selected) e.0 in
              let o : dots₁ ≡ dots = y ∙ away_spares f.mode r.item dots h in
              λ i. state (with_marks (with_places s (j i)) (e.1.1.1 i)) (e.1.0 i) (e.1.1.0 i) (o i)

          pub applying : Applying (with_marks (with_places s ps) marks₁) r.item m cells₁ layer₁ dots₁ printer c.printed
          applying = record {
            good = subst Good (sym same) g.going.good;
            legal = subst (λ (x : State). legal_item? r.item (limits_of x.settings) ≡ true) (sym same) legal;
            rows = w.rows_inside;
            roomy = roomy_here;
          }

          module _ {s₂ : Settings} {cells₂ layer₂ dots₂ printer₂ : List ℕ} (a : Applied (with_marks (with_places s ps) marks₁) r.item m c.printed s₂ cells₁ layer₁ dots₁ printer cells₂ layer₂ dots₂ printer₂) where
            done : state s₂ cells₂ layer₂ dots₂ ≡ rule st
            unfolding applied
            done = a.does ∙ ap (λ (x : Bool). cond x stood (rule stood)) h ∙ ap rule same

            pub good : Good (state s₂ cells₂ layer₂ dots₂)
            good = subst Good (sym done) (obeyed_item (λ o. get_or m o 0) r.item st g.going.good legal).good

            pub changed_to : {p₂ : Place} → p₂ ≡ place_of s₂ s₂.selected → state (with_here s₂ p₂ s₂.marks) cells₂ layer₂ dots₂ ≡ rule st
            changed_to {p₂} i = ap (λ (x : Settings). state x cells₂ layer₂ dots₂) (same_here s₂ p₂ s₂.marks (sym i) refl) ∙ done

            pub changed : {p₂ : Place} {f₂ : Frame} → p₂ ≡ place_of s₂ s₂.selected → (FrameOf s₂ f₂) × (f₂.bare ≡ b) → Loop cells₂ layer₂ dots₂ printer₂ s₂ p₂ s₂.marks f₂ c' v.at
            changed {p₂} {f₂} i q =
                let l : (rule st).layer ≡ layer₂ = ap (λ (x : State). x.layer) (sym done) in
                let known : f₂.bare ≡ true → layer₂ ≡ replicate 1280 0 =
                λ x. sym l ∙ bare_left r.item f.bare (λ o. get_or m o 0) st (sym bare_here ∙ sym q.1 ∙ x) (λ y. ((λ off. g.ready.layer_are.empty y), (λ on. absurd (differ (sym on ∙ h))))) in
                subst (λ (x : ℕ). Loop cells₂ layer₂ dots₂ printer₂ s₂ p₂ s₂.marks f₂ c' x) (sym (d.next (away r.item h)))
                (obeyed q.0.framed
                (record { stands = subst (Stands f₂) (sym i) q.0.stands; cells_are = good.cells_are; layer_are = record { size = good.layer_are; empty = known } })
                (changed_to i) (a.prints ∙ ap (λ (x : State). put c.printed (copy_of r.item x) printer) same) k)

    pub end : (r : Outcome) → length m ≤ at → r.settings ≡ with_here s p marks → r.answer ≡ answer_at at c → Runs m from c₀ (state s₀ cells₀ layer₀ dots₀) printer₀ r cells layer dots printer
    end r h e a = finish m from c₀ (state s₀ cells₀ layer₀ dots₀) printer₀ at st c printer g.going h r (ap (λ (x : Settings). state x cells layer dots) e) a
