-- The promises: open this file first. It goes through the three demands, for USB, FlexRay and UDP, and for the settings from the description file. Each
-- theorem is about any answer r that the contract of a function allows, and about the lent table or output as the call then leaves it (`left`). Tied shows
-- that these are the functions' own contracts, as the code states them, and OneResult that each allows one answer only.
-- What is cited here says more: Usb, Flexray and Udp for each transport, Call and Numbers for what all share, Description, Fitting
-- and DescriptionNumbers for the settings, Starred and the tables of limits for the examples, ShutOut for programs shut out.
use Prim.Native.Nat.{ℕ, ◌+◌, ◌*◌, ◌%◌, ◌^◌, ◌<◌, ◌≤◌}
use native.Mathlib.Omega.{arith}
use mathlib.Core.Path.{◌≡◌, refl}
use mathlib.Core.Bool.{Bool, true, or-true}
use mathlib.Core.Logic.{◌↔◌, ◌⊎◌}
use mathlib.Core.List.{List, [], ◌∷◌, map}
use lib.ListN.{length, take, drop}
use borrow.Author.Tests.{le-leb, ne_eqb}
use Rattle.packet.specs.declared.Counter.{Counter}
use Rattle.packet.specs.Reading.{Reading, Reading as R}
use Rattle.packet.specs.Writing.{Writing, Writing as W}
use Rattle.packet.specs.Part.{Checked}
use Rattle.packet.specs.Answer.{Answer, Gives}
use Rattle.packet.specs.Counter.{fresh, valid, gap}
use Rattle.packet.specs.Kind.{kind_of}
use Rattle.packet.specs.Message.{Msg}
use Rattle.packet.specs.Part.{part_of, check_of, check_number, check_place}
use Rattle.packet.specs.Row.{table, behind}
use Rattle.packet.proofs.AnswerLaws as AnswerLaws
use Rattle.packet.proofs.CounterLaws.{difference_back, difference_only}
use Rattle.packet.proofs.KindLaws as KindLaws
use Rattle.packet.proofs.PartLaws as PartLaws
use Rattle.lent.specs.Told.{Told, Tells, told_number, told_value}
use Rattle.usb.specs.declared.Setting as UsbSetting
use Rattle.usb.specs.Setting as UsbSize
use Rattle.usb.specs.Layout.{Transfer}
use Rattle.usb.specs.Refusal as UsbRefusal
use Rattle.usb.specs.Reading as UsbReading
use Rattle.usb.specs.Writing as UsbWriting
use Rattle.words.specs.Words.{Word, Parts}
use Rattle.words.specs.Parting.{parting}
use Rattle.words.specs.Spaced.{Spaced}
use Rattle.words.proofs.PartLaws as Parting
use Rattle.keywords.specs.Tables.{Text}
use Rattle.description.specs.Described.{Described, Described as D}
use Rattle.description.specs.declared.Said.{Said}
use Rattle.description.specs.Block.{Block}
use Rattle.description.specs.Standing.{Stops, Describes, Refusal, Accept, cmd_setting, res_setting}
use Rattle.flexray.specs.declared.Setting as FlexRaySetting
use Rattle.flexray.specs.Setting as FlexRaySize
use Rattle.flexray.specs.Layout.{Frame}
use Rattle.flexray.specs.Refusal as FlexRayRefusal
use Rattle.flexray.specs.Reading as FlexRayReading
use Rattle.flexray.specs.Writing as FlexRayWriting
use Rattle.flexray.specs.Row.{frame_table, frame_state}
use Rattle.udp.specs.declared.Setting as UdpSetting
use Rattle.udp.specs.Setting as UdpSize
use Rattle.udp.specs.Layout.{Datagram}
use Rattle.udp.specs.Refusal as UdpRefusal
use Rattle.udp.specs.Reading as UdpReading
use Rattle.udp.specs.Writing as UdpWriting
use Rattle.plumagemud.specs.declared.CheckResult.{CheckResult}
use Rattle.plumagemud.specs.declared.ReadResult.{ReadResult}
use Rattle.plumagemud.specs.declared.SettingsResult.{SettingsResult}
use Rattle.plumagemud.specs.declared.WriteResult.{WriteResult}
use Rattle.plumagemud.specs.Result.{check_result, Reads, Writes}
use Rattle.promises.proofs.Call as Call
use Rattle.promises.proofs.Call.{IsRows, Given}
use Rattle.promises.proofs.Numbers.{Numbers, ReadNumbers, numbers_promised, read_numbers, accepted_gives, lent-numbers, c_reads, c_writes}
use Rattle.promises.proofs.Usb as Usb
use Rattle.promises.proofs.Flexray as Flexray
use Rattle.promises.proofs.Description as Description
use Rattle.promises.proofs.Description.{IsBoth, Decided}
use Rattle.promises.proofs.DescriptionLimits as DescriptionLimits
use Rattle.promises.proofs.DescriptionNumbers as DescriptionNumbers
use Rattle.promises.proofs.Fitting.{Fits, Pair, Reaches, NoBlock, Unsound}
use Rattle.promises.proofs.FlexrayLimits as FlexrayLimits
use Rattle.promises.proofs.Limits as Limits
use Rattle.promises.proofs.Starred as Starred
use Rattle.promises.proofs.Udp as Udp
use Rattle.promises.proofs.UdpLimits as UdpLimits
use Rattle.promises.proofs.UsbLimits as UsbLimits

---- Demand 1: every call is answered, a bad one is refused by number and place, and a refused call changes nothing ----------------

-- A call is answered, whatever it is given: no entry point asks anything (Tied), and each function is proved to end with what its contract says. That an
-- answer meets a contract, for every input:
pub answered : {E : Type 0} (a : Answer E) → (r : E) × (left : List ℕ) × Gives a r left
answered = Call.answered

-- and that the rules of the description file decide every text, in one way only (Description `accept-only`, `refusal-only`, `never_both`):
pub decided : (t : List ℕ) (x : ℕ) → Decided t x
decided = Description.decided

-- usb_reader::read
module _ (s : UsbSetting.Setting) (t : List ℕ) (c : Counter) (rows : List ℕ) {r : Reading} {left : List ℕ}
    (call : Usb.Reads s t c rows r left) (n p : ℕ) where
  pub usb_read_refused : (r ≡ R.Refused n p) ↔ UsbRefusal.ReadRefusal s t c (length rows) n p
  usb_read_refused = (Usb.reads s t c rows call).answers.refused n p

  pub usb_read_unchanged : r ≡ R.Refused n p → (0 < n) × (n ≤ 8) × (left ≡ rows)
  usb_read_unchanged = (Usb.reads s t c rows call).answers.refusal n p

-- flexray_reader::read
module _ (s : FlexRaySetting.Setting) (t : List ℕ) (c : Counter) (rows : List ℕ) {r : Reading} {left : List ℕ}
    (call : Flexray.Reads s t c rows r left) (n p : ℕ) where
  pub flexray_read_refused : (r ≡ R.Refused n p) ↔ FlexRayRefusal.ReadRefusal s t c (length rows) n p
  flexray_read_refused = (Flexray.reads s t c rows call).answers.refused n p

  pub flexray_read_unchanged : r ≡ R.Refused n p → (0 < n) × (n ≤ 8) × (left ≡ rows)
  flexray_read_unchanged = (Flexray.reads s t c rows call).answers.refusal n p

-- udp_reader::read
module _ (s : UdpSetting.Setting) (t : List ℕ) (c : Counter) (rows : List ℕ) {r : Reading} {left : List ℕ}
    (call : Udp.Reads s t c rows r left) (n p : ℕ) where
  pub udp_read_refused : (r ≡ R.Refused n p) ↔ UdpRefusal.ReadRefusal s t c (length rows) n p
  udp_read_refused = (Udp.reads s t c rows call).answers.refused n p

  pub udp_read_unchanged : r ≡ R.Refused n p → (0 < n) × (n ≤ 8) × (left ≡ rows)
  udp_read_unchanged = (Udp.reads s t c rows call).answers.refusal n p

-- usb_reader::read_lent: d is what the call leaves of the state c. A refusal leaves the table and the state as they were
module _ (s : UsbSetting.Setting) (t : List ℕ) (c : Counter) (rows : List ℕ) {u : Told} {d : Counter} {left : List ℕ}
    (call : Tells (UsbReading.read_of s t c rows) c u d left) where
  pub usb_lent_unchanged : 0 < told_number u → (told_number u ≤ 8) × (left ≡ rows) × (d ≡ c)
  usb_lent_unchanged = (read_numbers (Usb.read_exact s t c rows) (lent-numbers call)).numbers.refusal

-- flexray_reader::read_lent
module _ (s : FlexRaySetting.Setting) (t : List ℕ) (c : Counter) (rows : List ℕ) {u : Told} {d : Counter} {left : List ℕ}
    (call : Tells (FlexRayReading.read_of s t c rows) c u d left) where
  pub flexray_lent_unchanged : 0 < told_number u → (told_number u ≤ 8) × (left ≡ rows) × (d ≡ c)
  flexray_lent_unchanged = (read_numbers (Flexray.read_exact s t c rows) (lent-numbers call)).numbers.refusal

-- udp_reader::read_lent
module _ (s : UdpSetting.Setting) (t : List ℕ) (c : Counter) (rows : List ℕ) {u : Told} {d : Counter} {left : List ℕ}
    (call : Tells (UdpReading.read_of s t c rows) c u d left) where
  pub udp_lent_unchanged : 0 < told_number u → (told_number u ≤ 8) × (left ≡ rows) × (d ≡ c)
  udp_lent_unchanged = (read_numbers (Udp.read_exact s t c rows) (lent-numbers call)).numbers.refusal

-- usb_writer::write
module _ (s : UsbSetting.Setting) (bs ns : List ℕ) (c fill : ℕ) (full : Bool) (out : List ℕ) {r : Writing} {left : List ℕ}
    (call : Usb.Writes s bs ns c fill full out r left) (n p : ℕ) where
  pub usb_write-refused : (r ≡ W.Refused n p) ↔ UsbRefusal.WriteRefusal s bs ns c fill full (length out) n p
  usb_write-refused = (Usb.writes s bs ns c fill full out call).refused n p

  pub usb_write_unchanged : r ≡ W.Refused n p → (0 < n) × (n ≤ 8) × (left ≡ out)
  usb_write_unchanged = (Usb.writes s bs ns c fill full out call).refusal n p

-- flexray_writer::write
module _ (s : FlexRaySetting.Setting) (bs ns : List ℕ) (c fill : ℕ) (out : List ℕ) {r : Writing} {left : List ℕ}
    (call : Flexray.Writes s bs ns c fill out r left) (n p : ℕ) where
  pub flexray_write-refused : (r ≡ W.Refused n p) ↔ FlexRayRefusal.WriteRefusal s bs ns c fill (length out) n p
  flexray_write-refused = (Flexray.writes s bs ns c fill out call).refused n p

  pub flexray_write_unchanged : r ≡ W.Refused n p → (0 < n) × (n ≤ 8) × (left ≡ out)
  flexray_write_unchanged = (Flexray.writes s bs ns c fill out call).refusal n p

-- udp_writer::write
module _ (s : UdpSetting.Setting) (bs ns : List ℕ) (c : ℕ) (out : List ℕ) {r : Writing} {left : List ℕ}
    (call : Udp.Writes s bs ns c out r left) (n p : ℕ) where
  pub udp_write-refused : (r ≡ W.Refused n p) ↔ UdpRefusal.WriteRefusal s bs ns c (length out) n p
  udp_write-refused = (Udp.writes s bs ns c out call).refused n p

  pub udp_write_unchanged : r ≡ W.Refused n p → (0 < n) × (n ≤ 8) × (left ≡ out)
  udp_write_unchanged = (Udp.writes s bs ns c out call).refusal n p

-- settings::settings, of a text t and the longest packet x
module _ (t : List ℕ) (x : ℕ) {r : Described} (call : Description.Reads t x r) (p : ℕ) where
  pub settings_refused : (n : ℕ) → (r ≡ D.Refused n p) ↔ Refusal t x n p
  settings_refused n = (Description.reads t x call).refused n p

  pub settings_number : (n : ℕ) → r ≡ D.Refused n p → ((n ≡ 1) ⊎ ((n ≡ 2) ⊎ (n ≡ 9))) × (p ≤ length t)
  settings_number n = (Description.reads t x call).refusal n p

  -- 2 exactly if the text is too long; 9 exactly if the word at p is the first that cannot stand, or all can and the text stops early, at p; 1 exactly if
  -- the text is a block whose settings are not both sound
  pub settings_long : (r ≡ D.Refused 2 p) ↔ ((p ≡ 0) × (16384 < length t))
  settings_long = (Description.reads t x call).long p

  pub settings_wrong : (r ≡ D.Refused 9 p) ↔ ((length t ≤ 16384) × NoBlock t p)
  settings_wrong = (Description.reads t x call).wrong p

  pub settings_unsound : (r ≡ D.Refused 1 p) ↔ ((p ≡ 0) × (length t ≤ 16384) × Unsound t x)
  settings_unsound = (Description.reads t x call).unsound p

  -- so a word that cannot stand behind the words ts is refused at its place: a second endpoint, a missing one, a wrong name and a word behind the block are
  -- such words (Description `second`, `missing`, `Wrong-name`, `wrong-last`, `behind`)
  pub settings_stopped : length t ≤ 16384 → {ts : List Text} {w : Text} → Stops ts w → Reaches t ts w p → r ≡ D.Refused 9 p
  settings_stopped short = Description.stopped t x call short

-- packet::part_check and packet::part: a part that runs past the input is refused with 5 at its place, and is empty; any other shows exactly its bytes
module _ (t : List ℕ) (p n : ℕ) {r : Checked} (check : r ≡ check_of t p n) {shown : List ℕ} (part : shown ≡ part_of t p n) where
  pub part_refused : length t < p + n → (check_number r ≡ 5) × (check_place r ≡ p) × (shown ≡ [])
  part_refused = rw (check, part) (PartLaws.part_outside t p n)

  pub part_shown : p + n ≤ length t → (check_number r ≡ 0) × (shown ≡ take n (drop p t)) × (length shown ≡ n)
  part_shown = rw (check, part) (PartLaws.part_inside t p n)

-- packet::kind, of a packet with the first byte b: from the slave RES, ERR, EV, SERV and DAQ, from the master CMD and STIM
module _ (b : ℕ) (bs : List ℕ) {r : ℕ} where
  pub kind-from-slave : r ≡ kind_of 0 (b ∷ bs)
      → (b ≡ 0xFF → r ≡ 1) × (b ≡ 0xFE → r ≡ 2) × (b ≡ 0xFD → r ≡ 3) × (b ≡ 0xFC → r ≡ 4) × (b ≤ 0xFB → r ≡ 5)
  kind-from-slave call = rw call (KindLaws.slave-kinds b bs)

  pub kind-from-master : r ≡ kind_of 1 (b ∷ bs) → (0xC0 ≤ b → r ≡ 6) × (b ≤ 0xBF → r ≡ 7)
  kind-from-master call = rw call (KindLaws.master-kinds b bs)

---- Demand 2: written bytes are those of document 01 and Ask 3, gaps are modulo the counter's size, what was written reads back --

-- the gap in the row of a message with counter c, where the state s is known, is the one number below the counter's size that leads from the expected
-- counter to c; from a fresh state it is 0
pub gap_modulo : (w : ℕ) (s : Counter) (c r : ℕ) → 0 < w → 0 < s.known → c < 256 ^ w → s.expected < 256 ^ w → r < 256 ^ w
    → ((r + s.expected) % 256 ^ w ≡ c) ↔ (r ≡ gap w s c)
unfolding gap
gap_modulo w s c r v k h l b =
    rw (ne_eqb w 0 (omega arith), ne_eqb s.known 0 (omega arith))
    (difference_only w c s.expected r (omega arith) b, λ x. rw x (difference_back w c s.expected h (omega arith)))

pub gap-fresh : (w c : ℕ) → gap w fresh c ≡ 0
unfolding gap
gap-fresh w c = simp or-true

-- the bytes are laid out as the packets given, at the front of the output: `Written` has them, the counters and the places
module _ (s : UsbSetting.Setting) (bs ns : List ℕ) (c fill : ℕ) (full : Bool) (out : List ℕ) {k d : ℕ} {left : List ℕ}
    (call : Usb.Writes s bs ns c fill full out (W.Bytes k d) left) where
  pub usb_written : Usb.Written s bs ns c fill full out k d left
  usb_written = Usb.written s bs ns c fill full out call

  -- the messages that stand in the bytes, with the packets that were given
  abbrev sent : List Msg
  sent = Usb.sent s bs ns c fill full out

  pub usb_round_trip : (e : Counter) (rows : List ℕ) {r : Reading} {past : List ℕ} → Usb.Reads s (take k left) e rows r past
      → valid (UsbSize.W s) e ≡ true → 5 * length ns ≤ length rows
      → (r ≡ R.Rows (length ns) (behind (UsbSize.W s) e sent))
      × (take (5 * length ns) past ≡ table s.direction (UsbSize.W s) e sent)
      × (map (λ m. m.packet) sent ≡ Usb.given s bs ns c fill full out)
  usb_round_trip e rows = Usb.round_trip s bs ns c fill full out call e rows

module _ (s : FlexRaySetting.Setting) (bs ns : List ℕ) (c fill : ℕ) (out : List ℕ) {k d : ℕ} {left : List ℕ}
    (call : Flexray.Writes s bs ns c fill out (W.Bytes k d) left) where
  pub flexray_written : Flexray.Written s bs ns c fill out k d left
  flexray_written = Flexray.written s bs ns c fill out call

  abbrev framed : List Msg
  framed = Flexray.sent s bs ns c fill out

  -- its packets are those that were given: `same` and `alone` of `flexray-written`
  pub flexray_round_trip : (e : Counter) (rows : List ℕ) {r : Reading} {past : List ℕ} → Flexray.Reads s (take k left) e rows r past
      → valid (FlexRaySize.W s) e ≡ true → 5 * length ns ≤ length rows
      → (r ≡ R.Rows (length ns) (frame_state (FlexRaySize.W s) e framed))
      × (take (5 * length ns) past ≡ frame_table s.direction (FlexRaySize.W s) e framed)
  flexray_round_trip e rows = Flexray.round_trip s bs ns c fill out call e rows

module _ (s : UdpSetting.Setting) (bs ns : List ℕ) (c : ℕ) (out : List ℕ) {k d : ℕ} {left : List ℕ}
    (call : Udp.Writes s bs ns c out (W.Bytes k d) left) where
  pub udp_written : Udp.Written s bs ns c out k d left
  udp_written = Udp.written s bs ns c out call

  abbrev packed : List Msg
  packed = Udp.sent s bs ns c out

  pub udp_round_trip : (e : Counter) (rows : List ℕ) {r : Reading} {past : List ℕ} → Udp.Reads s (take k left) e rows r past
      → valid UdpSize.W e ≡ true → 5 * length ns ≤ length rows
      → (r ≡ R.Rows (length ns) (behind UdpSize.W e packed)) × (take (5 * length ns) past ≡ table s.direction UdpSize.W e packed)
      × (map (λ m. m.packet) packed ≡ Udp.given s bs ns c out)
  udp_round_trip = Udp.round_trip s bs ns c out call

---- Demand 3: a reader accepts exactly if some list makes up the input by the sender's layout rules, at most one list does, and it gives that list

-- `Given`: the rows of ms stand at the front of the table, those behind are unchanged, each part shows its packet, and no other list makes up the input
module _ (s : UsbSetting.Setting) (t : List ℕ) (c : Counter) (rows : List ℕ) {r : Reading} {left : List ℕ}
    (call : Usb.Reads s t c rows r left) where
  pub usb_accepts : IsRows r ↔ ((ms : List Msg) × UsbRefusal.Fine s c × Transfer s ms t × (5 * length ms ≤ length rows))
  usb_accepts = (Usb.reads s t c rows call).demand

  pub usb_gives : (ms : List Msg) → UsbRefusal.Fine s c → Transfer s ms t → 5 * length ms ≤ length rows
      → (r ≡ R.Rows (length ms) (behind (UsbSize.W s) c ms)) × Given (Usb.rules s t c rows) left ms
  usb_gives = (Usb.reads s t c rows call).gives

module _ (s : FlexRaySetting.Setting) (t : List ℕ) (c : Counter) (rows : List ℕ) {r : Reading} {left : List ℕ}
    (call : Flexray.Reads s t c rows r left) where
  pub flexray_accepts : IsRows r ↔ ((ms : List Msg) × FlexRayRefusal.Fine s c × Frame s ms t × (5 * length ms ≤ length rows))
  flexray_accepts = (Flexray.reads s t c rows call).demand

  pub flexray_gives : (ms : List Msg) → FlexRayRefusal.Fine s c → Frame s ms t → 5 * length ms ≤ length rows
      → (r ≡ R.Rows (length ms) (frame_state (FlexRaySize.W s) c ms)) × Given (Flexray.rules s t c rows) left ms
  flexray_gives = (Flexray.reads s t c rows call).gives

module _ (s : UdpSetting.Setting) (t : List ℕ) (c : Counter) (rows : List ℕ) {r : Reading} {left : List ℕ}
    (call : Udp.Reads s t c rows r left) where
  pub udp_accepts : IsRows r ↔ ((ms : List Msg) × UdpRefusal.Fine s c × Datagram s ms t × (5 * length ms ≤ length rows))
  udp_accepts = (Udp.reads s t c rows call).demand

  pub udp_gives : (ms : List Msg) → UdpRefusal.Fine s c → Datagram s ms t → 5 * length ms ≤ length rows
      → (r ≡ R.Rows (length ms) (behind UdpSize.W c ms)) × Given (Udp.rules s t c rows) left ms
  udp_gives = (Udp.reads s t c rows call).gives

-- The settings reader likewise: a text is accepted exactly if it parts into the words of a block with sound settings (`Fits`), at most one block is what it
-- says, and the settings given are those of that block
module _ (t : List ℕ) (x : ℕ) {r : Described} (call : Description.Reads t x r) where
  pub settings_accepts : IsBoth r ↔ ((s : Said) × Fits t x s)
  settings_accepts = (Description.reads t x call).demand

  pub settings_gives : (s : Said) → Fits t x s → (r ≡ D.Both (cmd_setting s x) (res_setting s x)) × ((u : Said) → Describes t u → u ≡ s)
  settings_gives = (Description.reads t x call).gives

  pub settings_accepted : (c d : UsbSetting.Setting) → (r ≡ D.Both c d) ↔ Accept t x c d
  settings_accepted = (Description.reads t x call).accepted

  -- such settings are sound, with one header, directions 1 and 0, and x: usb_reader::read does not refuse them with 1 (Description `sound-read`)
  pub settings_pair : (c d : UsbSetting.Setting) → r ≡ D.Both c d → Pair x c d
  settings_pair = (Description.reads t x call).pair

-- every text parts into words, and in one way only
pub parts-some : (t : List ℕ) → (ws : List Word) × (c : Bool) × Parts 0 t ws c
parts-some t = let p = parting 0 t in (p.words, p.closed, Parting.parts 0 t)

pub parts_only : {t : List ℕ} {vs ws : List Word} {c d : Bool} → Parts 0 t vs c → Parts 0 t ws d → (vs ≡ ws) × (c ≡ d)
parts_only = Parting.parts_unique

-- a text that is a block written out, with any blanks and comments between its words, describes what the block says, and all such texts read the same. (No
-- comment stands right behind a word that ends with a slash: `Spaced`)
pub written_out : {s : Said} {ws : List Text} {t : List ℕ} → Spaced ws t → Block s ws → Describes t s
written_out = Description.written_out

pub settings_same : {s : Said} {ws : List Text} {t u : List ℕ} (x : ℕ) {r v : Described} → Description.Reads t x r → Description.Reads u x v
    → Spaced ws t → Spaced ws u → length t ≤ 16384 → length u ≤ 16384 → Block s ws → r ≡ v
settings_same = Description.reads_same

---- In numbers: what a C caller gets, and one that lends the state -----------------------------------------------------------------

-- `Numbers Refusal Accept lent c n v d left` says of a call with the state or counter c that tells number n, value v and d, and leaves what was lent at `left`:
--     refused     n is m, a number above 0, and v is p, exactly when document 01's table, for UDP with Ask 3, gives m at p
--     refusal     where n is not 0 it is at most 8, and nothing is changed: `left` is what was lent, and d is c
--     accepted    n is 0, v is k and d is e exactly when nothing is refused, with k rows or bytes, and with e behind them
-- `ReadNumbers` has these as `numbers`, and demand 3 as `gives`. Where n is 0 the call is one that answers so many rows or bytes (`xcp-usb-rows`,
-- `xcp-usb-bytes` and their like), so that demands 2 and 3 above hold of it as they stand.
module _ (s : UsbSetting.Setting) (t : List ℕ) (c : Counter) (rows : List ℕ) where
  pub usb_lent-numbers : {u : Told} {d : Counter} {left : List ℕ} → Tells (UsbReading.read_of s t c rows) c u d left
      → ReadNumbers (Usb.rules s t c rows) c (told_number u) (told_value u) d left
  usb_lent-numbers call = read_numbers (Usb.read_exact s t c rows) (lent-numbers call)

  module _ {x : ReadResult} {left : List ℕ} (call : Reads (UsbReading.read_of s t c rows) c x left) where
    pub xcp_usb_read : ReadNumbers (Usb.rules s t c rows) c x.number x.value x.counter left
    xcp_usb_read = read_numbers (Usb.read_exact s t c rows) (c_reads call)

    pub xcp_usb_rows : x.number ≡ 0 → Usb.Reads s t c rows (R.Rows x.value x.counter) left
    xcp_usb_rows = accepted_gives (c_reads call) (Usb.read_exact s t c rows).exact

module _ (s : UsbSetting.Setting) (bs ns : List ℕ) (c fill : ℕ) (full : Bool) (out : List ℕ) {x : WriteResult} {left : List ℕ}
    (call : Writes (UsbWriting.write_of s bs ns c fill full out) c x left) where
  pub xcp_usb_write : Numbers (UsbRefusal.WriteRefusal s bs ns c fill full (length out)) (UsbRefusal.WriteAccept s bs ns c fill full (length out)) out c
      x.number x.value x.counter left
  xcp_usb_write = numbers_promised (c_writes call) (Usb.write_exact s bs ns c fill full out)

  pub xcp_usb_bytes : x.number ≡ 0 → Usb.Writes s bs ns c fill full out (W.Bytes x.value x.counter) left
  xcp_usb_bytes = accepted_gives (c_writes call) (Usb.write_exact s bs ns c fill full out)

module _ (s : FlexRaySetting.Setting) (t : List ℕ) (c : Counter) (rows : List ℕ) where
  pub flexray_lent-numbers : {u : Told} {d : Counter} {left : List ℕ} → Tells (FlexRayReading.read_of s t c rows) c u d left
      → ReadNumbers (Flexray.rules s t c rows) c (told_number u) (told_value u) d left
  flexray_lent-numbers call = read_numbers (Flexray.read_exact s t c rows) (lent-numbers call)

  module _ {x : ReadResult} {left : List ℕ} (call : Reads (FlexRayReading.read_of s t c rows) c x left) where
    pub xcp_flexray_read : ReadNumbers (Flexray.rules s t c rows) c x.number x.value x.counter left
    xcp_flexray_read = read_numbers (Flexray.read_exact s t c rows) (c_reads call)

    pub xcp_flexray_rows : x.number ≡ 0 → Flexray.Reads s t c rows (R.Rows x.value x.counter) left
    xcp_flexray_rows = accepted_gives (c_reads call) (Flexray.read_exact s t c rows).exact

module _ (s : FlexRaySetting.Setting) (bs ns : List ℕ) (c fill : ℕ) (out : List ℕ) {x : WriteResult} {left : List ℕ}
    (call : Writes (FlexRayWriting.write_of s bs ns c fill out) c x left) where
  pub xcp_flexray_write : Numbers (FlexRayRefusal.WriteRefusal s bs ns c fill (length out)) (FlexRayRefusal.WriteAccept s bs ns c fill (length out)) out c
      x.number x.value x.counter left
  xcp_flexray_write = numbers_promised (c_writes call) (Flexray.write_exact s bs ns c fill out)

  pub xcp_flexray_bytes : x.number ≡ 0 → Flexray.Writes s bs ns c fill out (W.Bytes x.value x.counter) left
  xcp_flexray_bytes = accepted_gives (c_writes call) (Flexray.write_exact s bs ns c fill out)

module _ (s : UdpSetting.Setting) (t : List ℕ) (c : Counter) (rows : List ℕ) where
  pub udp_lent-numbers : {u : Told} {d : Counter} {left : List ℕ} → Tells (UdpReading.read_of s t c rows) c u d left
      → ReadNumbers (Udp.rules s t c rows) c (told_number u) (told_value u) d left
  udp_lent-numbers call = read_numbers (Udp.read_exact s t c rows) (lent-numbers call)

  module _ {x : ReadResult} {left : List ℕ} (call : Reads (UdpReading.read_of s t c rows) c x left) where
    pub xcp_udp_read : ReadNumbers (Udp.rules s t c rows) c x.number x.value x.counter left
    xcp_udp_read = read_numbers (Udp.read_exact s t c rows) (c_reads call)

    pub xcp_udp_rows : x.number ≡ 0 → Udp.Reads s t c rows (R.Rows x.value x.counter) left
    xcp_udp_rows = accepted_gives (c_reads call) (Udp.read_exact s t c rows).exact

module _ (s : UdpSetting.Setting) (bs ns : List ℕ) (c : ℕ) (out : List ℕ) {x : WriteResult} {left : List ℕ}
    (call : Writes (UdpWriting.write_of s bs ns c out) c x left) where
  pub xcp_udp_write : Numbers (UdpRefusal.WriteRefusal s bs ns c (length out)) (UdpRefusal.WriteAccept s bs ns c (length out)) out c
      x.number x.value x.counter left
  xcp_udp_write = numbers_promised (c_writes call) (Udp.write_exact s bs ns c out)

  pub xcp_udp_bytes : x.number ≡ 0 → Udp.Writes s bs ns c out (W.Bytes x.value x.counter) left
  xcp_udp_bytes = accepted_gives (c_writes call) (Udp.write_exact s bs ns c out)

-- xcp_usb_settings: number 0 with place 0 and the settings exactly if they are accepted; a number above 0 and its place exactly if the text is refused so, and
-- then all twelve numbers of the settings are 0
module _ (t : List ℕ) (x : ℕ) {y : SettingsResult} (call : DescriptionNumbers.Tells t x y) where
  pub xcp_usb_settings : DescriptionNumbers.Numbers t x y
  xcp_usb_settings = DescriptionNumbers.numbers t x call

-- xcp_part_check; xcp_kind has the contract of packet::kind, so that `kind-from-slave` and `kind-from-master` hold of it
module _ (t : List ℕ) (p n : ℕ) {x : CheckResult} (call : x ≡ check_result (check_of t p n)) where
  pub xcp_part_refused : length t < p + n → (x.number ≡ 5) × (x.place ≡ p)
  xcp_part_refused h = let (number, place, empty) = PartLaws.part_outside t p n h in (rw call number, rw call place)

  pub xcp_part_inside : p + n ≤ length t → (x.number ≡ 0) × (x.place ≡ 0)
  xcp_part_inside h = rw (call, le-leb (p + n) (length t) h) (refl, refl)

---- The examples, and that a contract determines what its function answers ---------------------------------------------------------

-- the starred examples, the others, and our own of datagrams: what is given is what document 01 and Ask 3 say, in one table
pub starred : map (λ x. x.gives) Starred.examples ≡ map (λ x. x.is) Starred.examples
starred = Starred.starred

-- tables like it: each bound of a setting or counter at the bound and one past it; kinds and parts; headers, packings and frames written and read back; and
-- refusals with their places
pub bounded : (map (λ x. x.gives) Limits.bounds ≡ map (λ x. x.is) Limits.bounds)
    × (map (λ x. x.gives) Limits.numbers ≡ map (λ x. x.is) Limits.numbers)
bounded = Limits.bounded

pub usb_limits : (map (λ x. x.gives) UsbLimits.transfers ≡ map (λ x. x.is) UsbLimits.transfers)
    × (map (λ x. x.gives) UsbLimits.calls ≡ map (λ x. x.is) UsbLimits.calls)
usb_limits = UsbLimits.usb_limits

pub flexray_limits : (map (λ x. x.gives) FlexrayLimits.frames ≡ map (λ x. x.is) FlexrayLimits.frames)
    × (map (λ x. x.gives) FlexrayLimits.calls ≡ map (λ x. x.is) FlexrayLimits.calls)
flexray_limits = FlexrayLimits.flexray_limits

pub udp_limits : map (λ x. x.gives) UdpLimits.calls ≡ map (λ x. x.is) UdpLimits.calls
udp_limits = UdpLimits.udp_limits

-- what words say, and texts with their settings or the place where they are refused
pub description_limits : (map (λ x. x.gives) DescriptionLimits.words ≡ map (λ x. x.is) DescriptionLimits.words)
    × (map (λ x. x.gives) DescriptionLimits.texts ≡ map (λ x. x.is) DescriptionLimits.texts)
description_limits = DescriptionLimits.description_limits

-- any two results that a contract allows are equal; OneResult says it of each function's own contract
pub one-result : {E : Type 0} {a : Answer E} {r u : E} {left past : List ℕ} → Gives a r left → Gives a u past → (r ≡ u) × (left ≡ past)
one-result = AnswerLaws.one-result
