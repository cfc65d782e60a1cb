-- A slot owns nothing at null, and else what a box at the same types owns.
--     E          the box.        FromParts, FromSlot     the parts of the box and the slot, as rows
--     slot_word, slot_in, slot_out     the machine value of a slot, and a slot by value.        slot_case     it is at null, or owns a box, whose pointer may be compared with null
use Rattle.std.proofs.Common.{◌≡◌, List, [], ◌∷◌, ◌++◌, refl, subst}
use Rattle.std.specs.Prelude.{Option, None, Some}
use seplogic.Ra.Ura.{Ura}
use mir.Syntax.{impl, tnil, dnil}
use mir.Val.{Val, vstruct, vcons, vnil, of_list}
use base.Logic.{ent, id⊢, guard, via, snd∗, never_e, guard_i}
use base.Fml.{Fml, ftrue}
use types.Logic.{Logic, sem}
use contract.Monad.{fact_use}
use types.Kit.{Item, Goal, Seq, Step, step, ‵, given, learn, use1, ◌$◌, drop, fsplit, fjoin, fpick, fpack, feq_i, feq_l}
use denote.RattleType.{Valss}
use denote.RawPtr.{Ptr, RawPtr, ptr_val, block_ptr, null_ptr, Testable}
use denote.Memory.{lone}
use mir.Raw.{raw as bare}
use Rattle.std.specs.Box.Ownership.{box_owns}
use Rattle.std.specs.Ptr.{points_to}
use Rattle.std_heap.proofs.GlobalToken.{dealloc_token-Testable}
use Prim.Native.Nat.{ℕ}
use denote.Signature.{plain}
use denote.Signature
use denote.Steps.{nothing}
use denote.Struct.Struct.{within}
use denote.Struct.Owning.{shape}
use Rattle.std_alloc.proofs.BoxSteps.Form.{Bx}
use Rattle.std_heap.specs.contracts.Global as Heap
use Rattle.std_heap.specs.contracts.GlobalAllocator.TheImpl.{ghosts, dict}
use Rattle.std_heap.proofs.Global.TheLaws as heap
use Rattle.regress_calls.specs.contracts.held.Held as Held
use Rattle.regress_calls.proofs.held.Held.TheLaws as held
use Rattle.regress_calls.specs.contracts.slot.parts.Parts as Parts
use Rattle.regress_calls.specs.contracts.slot.Slot as Slot
use Rattle.regress_calls.specs.Slots.{slot_owns}

abbrev pub E : Bx
E = record { row = Held.the_row; laws = held.the_row_laws; al = record { row = Heap.the_row; laws = heap.the_row_laws; g = ghosts; d = dict; drops = impl [] tnil dnil } }

abbrev pub FromParts : Signature.Slot 0
FromParts = plain (λ _. Parts.the_row Held.the_row Heap.the_row ghosts)

abbrev pub FromSlot : Signature.Slot 0
FromSlot = plain (λ _. Slot.the_row)

abbrev pub slot_word : Ptr → Val
slot_word p = vstruct (vcons (ptr_val p) vnil)

module _ {M : Type 1} {𝓤 : Ura M} {𝓛 : Logic 𝓤} {K : Type 0} {Γ : List (Item 𝓤)} {G : Goal 𝓤 𝓛.H} where
  pub slot_in : K → (p : Ptr) (x : Option Held.the_row.Denot)
      → Step K 𝓛 (‵ (Slot.the_row.own_val (record { ptr = p; held = x }) (slot_word p ∷ [])) ∷ Γ) G (‵ (slot_owns p x) ∷ Γ) G
  slot_in t p x = step (λ s.
      nothing t $ feq_i t (List Val) (ptr_val p ∷ []) (ptr_val p ∷ []) refl $ fjoin t $ feq_i t (List Val) (slot_word p ∷ []) (slot_word p ∷ []) refl $ fjoin t $
      fpack t (Valss (RawPtr ∷ [])) (within (shape Slot.the_type) (p, tt) (slot_word p ∷ [])) (ptr_val p ∷ [], tt) $ fjoin t $ s)

  pub slot_out : K → (d : Slot.the_row.Denot) (vs : List Val)
      → (vs ≡ slot_word d.ptr ∷ [] → Seq K 𝓛 (‵ (slot_owns d.ptr d.held) ∷ Γ) G)
      → Seq K 𝓛 (‵ (Slot.the_row.own_val d vs) ∷ Γ) G
  slot_out t d vs k =
      fsplit t $ fpick t (λ vss. fsplit t $ feq_l t (λ ev. fsplit t $ feq_l t (λ ep. drop t $
      k (subst (λ (ps : List Val). vs ≡ vstruct (of_list (ps ++ [])) ∷ []) ep ev))))

abbrev pub boxed : Heap.the_row.Denot → Ptr → Held.the_row.Denot → Fml
boxed a p x = box_owns (ghosts.dealloc_token a) Held.the_row p x

module _ {M : Type 1} {𝓤 : Ura M} (𝓛 : Logic 𝓤) where
  tested : (a : Heap.the_row.Denot) (p : Ptr) (x : Held.the_row.Denot) → ent 𝓤 (sem 𝓛 (boxed a p x)) (guard 𝓤 (Testable p) (sem 𝓛 (boxed a p x)))
  tested a p x = fact_use 𝓤 (Testable p) (via 𝓤 _ (snd∗ 𝓤 (sem 𝓛 (points_to Held.the_row p x)) (sem 𝓛 (ghosts.dealloc_token a (bare (lone Held.the_row.mir)) p))) (dealloc_token-Testable 𝓛 a (bare (lone Held.the_row.mir)) p)) (guard_i 𝓤 (Testable p) (sem 𝓛 (boxed a p x)))

module _ {M : Type 1} {𝓤 : Ura M} {𝓛 : Logic 𝓤} {K : Type 0} {Γ : List (Item 𝓤)} {G : Goal 𝓤 𝓛.H} where
  pub slot_case : K → (a : Heap.the_row.Denot) (p : Ptr) (h : Option Held.the_row.Denot)
      → (p ≡ null_ptr → h ≡ None → Seq K 𝓛 Γ G)
      → ((b o : ℕ) (x : Held.the_row.Denot) → p ≡ block_ptr b o → h ≡ Some x → Testable (block_ptr b o) → Seq K 𝓛 (‵ (boxed a (block_ptr b o) x) ∷ Γ) G)
      → Seq K 𝓛 (‵ (slot_owns p h) ∷ Γ) G
  unfolding slot_owns
  slot_case t a null_ptr None none one = drop t $ none refl refl
  slot_case t a null_ptr (Some x) none one = use1 𝓛 (given ⊥ (‵ ftrue)) (never_e 𝓤 _) $ learn t (λ z. absurd z)
  slot_case t a (block_ptr b o) None none one = use1 𝓛 (given ⊥ (‵ ftrue)) (never_e 𝓤 _) $ learn t (λ z. absurd z)
  slot_case t a (block_ptr b o) (Some x) none one = fpick t (λ a'. use1 𝓛 (‵ (boxed a (block_ptr b o) x)) (id⊢ 𝓤 _) $ use1 𝓛 (given (Testable (block_ptr b o)) (‵ (boxed a (block_ptr b o) x))) (tested 𝓛 a (block_ptr b o) x) $ learn t (λ e. one b o x refl refl e))
