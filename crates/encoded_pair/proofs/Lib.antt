-- What two opened types and a question come to.
mod Asking
