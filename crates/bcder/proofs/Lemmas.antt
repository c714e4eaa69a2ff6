-- What proofs in crates above cite, by what each says. Laws of moved content are in specs/laws/Moved.

-- ---- results

-- `?` answers the error that it met
pub use Rattle.bcder.proofs.Refusing.{residual as refused_as_met}
-- what is said of an error, by what was said of it
pub use Rattle.bcder.proofs.Refusing.{if_err as if_refused}
-- what holds of an answer that was looked at by `is_some`
pub use Rattle.bcder.proofs.WalkCalls.{some_value as where_some, none_value as where_none}
-- ---- content

-- open content has not ended
pub use Rattle.bcder.proofs.Moving.{open_not_ended as open_has_not_ended}
-- no more is left than is owed; so it is with what a `Constructed` is, which isn't octets either
pub use Rattle.bcder.proofs.Entering.{Within as IsWithinOwed}
pub use Rattle.bcder.proofs.SameBorrow.{within_constructed as constructed_is_within_owed, constructed_form as constructed_is_not_octets}
-- less is left after a value
pub use Rattle.bcder.proofs.WalkSteps.{value_shorter as shorter_by_a_value}
-- ---- a loop over the values of content

-- before the first value; one value on; refused at the next
pub use Rattle.bcder.proofs.WalkSteps.{walks_refl as walks_nothing, walks_value as walks_one_more, walks_refused as refused_on_the_way}
-- a value and those that remain are those that were there
pub use Rattle.bcder.proofs.WalkSteps.{values_before as values_with_one_more, values_before_trees as trees_with_one_more}
-- at the end no values remain
pub use Rattle.bcder.proofs.WalkSteps.{none_left as no_values_at_the_end, none_left_trees as no_trees_at_the_end}
-- and where no first one is, before the end, none are
pub use Rattle.bcder.proofs.WalkSteps.{no_values as no_values_without_a_first}
-- ---- typed takes of one's own

-- a take whose closure reads what contents octets mean takes a value as that
pub use Rattle.bcder.proofs.Typed.{reader_takes_one as takes_what_is_read, reader_takes_next as takes_what_is_read_if_there}
-- ---- what was written, and is read back

-- a writer of one constructed value
pub use Rattle.bcder.proofs.Writes.{wrote_constructed}
-- memory is wanted only where it may lack
pub use Rattle.bcder.proofs.Writes.{wants_where_it_lacks}
-- values that mean one thing alone are written as it
pub use Rattle.bcder.proofs.TakenBack.{written_whole as written_as_meant}
-- what was written is decoded as it was, and not refused
pub use Rattle.bcder.proofs.TakenBack.{decoded_is as decoded_as_written, decoded as written_is_not_refused}
-- ---- an encoder of one's own

-- what a primitive value of these contents octets means
pub use Rattle.bcder.proofs.Enclosing.{primitive_given as primitive_means}
-- a writing of what is meant; after another; that stopped before another; of the same octets; and where `?` passes on its error
pub use Rattle.bcder.proofs.Writing.{wrote_what as wrote_what_is_meant, follows_on as wrote_after, stops as wrote_no_further}
pub use Rattle.bcder.proofs.Writing.{same_octets as wrote_same, passed_on as wrote_what_is_passed_on}
-- a loop over parts: a front of them is written
pub use Rattle.bcder.proofs.Joining.{WrittenSoFar}
-- before the first; one more; not one more; all
pub use Rattle.bcder.proofs.Joining.{written_start as written_none, written_next as written_one_more}
pub use Rattle.bcder.proofs.Joining.{written_failed as written_not_one_more, written_done as written_all}
-- ---- object identifiers

-- for the octets of an identifier there may be no memory
pub use Rattle.bcder.proofs.Spelling.{no_memory_for as may_lack_memory_for}
-- ---- readers of types

-- open content has not failed
pub use Rattle.bcder.proofs.Moving.{open_not_failed as open_has_not_failed}
-- content that is done is at its end
pub use Rattle.bcder.proofs.WalkSteps.{done_here as done_is_at_its_end}
-- faults that grew, after as many and before as many
pub use Rattle.bcder.proofs.Entering.{no_fewer as as_many_are_no_fewer}
pub use Rattle.bcder.proofs.WalkSteps.{grew_between as grew_in_between}
-- a value with a tag begins with its header; behind that of a primitive one is no constructed one; content then shows that it is there
pub use Rattle.bcder.proofs.Valued.{tagged_header as header_of_tagged, primitive_in_front}
pub use Rattle.bcder.proofs.Typed.{header_not_absent as header_is_there}
-- behind that header a refusal may have any text
pub use Rattle.bcder.proofs.Naming.{behind_header as refused_behind_header}
-- one value at most comes next, and content holds one list of values at most; octets are none
pub use Rattle.bcder.proofs.WalkSteps.{value_once}
pub use Rattle.bcder.proofs.Valued.{one_values, no_values_of_octets}
-- the values behind one
pub use Rattle.bcder.proofs.WalkSteps.{values_after}
-- a take whose closure reads content takes a value as what it means, or finds none
pub use Rattle.bcder.proofs.Valued.{next_tree, no_tree}
-- a take whose closure reads contents octets does
pub use Rattle.bcder.proofs.Typed.{next_as, octets_form, or_false}
-- contents octets that are all there, and too few
pub use Rattle.bcder.proofs.Strings.{all_held, too_few}
-- in CER and DER an octet string has one value, and its octets are those of the value
pub use Rattle.bcder.proofs.OneString.{one_string, means_flat}
-- numbers, booleans and octet strings that are written are read back
pub use Rattle.bcder.proofs.Contents.{unsigned_read, signed_read, natural_read, integer_read, truth_read}
pub use Rattle.bcder.proofs.WrittenStrings.{string_written}
-- a loop over the sizes of parts: a front of them is added up
pub use Rattle.bcder.proofs.Joining.{SumSoFar, so_far_start, so_far_next, so_far_refused, so_far_done, sum_refused}
-- the parts of a list behind one of them, and behind the last
pub use Rattle.bcder.proofs.Joining.{EachOf_at, EachOf_end}
-- what may lack memory for less may for more
pub use Rattle.bcder.proofs.Writing.{lacks_more}
